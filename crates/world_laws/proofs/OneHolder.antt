-- Two wallets don't hold one coin.
use Rattle.world_laws.proofs.Basics.{◌≡◌, ◌≢◌, ℕ, ◌+◌, ◌<◌, ◌≤◌, ◌==◌, true, false, if◌then◌else◌, List, [], ◌∷◌, inl, inr, sym, ap, ◌∙◌, subst, arith, rules, is_some, cases_order, ne_eqb, eq-eqb, false≢true, common_steps, some_same}
use Rattle.world_laws.proofs.CoinWords.{RawOpening, Deposit, coins, Tests, Rules, tests_by, coin_at-le, Bundle, Has, Owner}
use Rattle.world_laws.proofs.WorldWords.{Event, Joins, Accepts, log_of, wallet_owner, accepted, bound_by, signed_away_by, openings_of, seen, collides, is_forged, was_declared_before, IsLegal, OneWalletHoldsLegally, was_declared_before}
use Rattle.world_laws.proofs.HeldCoins.{HasOneLeaf, one_leaf, walk-opened, place_of, IsShownAt, parted, SignsBy, owners_apart, Holding, holding, is_noted, IsSince, owner-some, owner-stays, bound_since, unspent, held_at, end_shown, shown_same, successor_in}
use Rattle.world_laws.proofs.Before.{legal-before}

module _ (tests : Tests) (rules : Rules) where
  declared-stays : (event : Event) (events : List Event) (w : ℕ) → IsLegal tests rules (event ∷ events)
      → is_some (wallet_owner events w) ≡ true → is_some (wallet_owner (event ∷ events) w) ≡ true
  declared-stays event events w legal is =
      let m = owner-some events w is in ap is_some (owner-stays tests rules event events w m.0 legal m.1)

  first-declared : (events : List Event) (w c : ℕ) → IsLegal tests rules events
      → was_declared_before events w c ≡ true → is_some (wallet_owner events w) ≡ true
  unfolding was_declared_before
  first-declared [] w c legal first = absurd (false≢true first)
  first-declared (Joins (Deposit account amount key) ∷ events) w c legal first =
      let before = legal-before tests rules (Joins (Deposit account amount key)) events legal in
      declared-stays (Joins (Deposit account amount key)) events w legal
      ((elim (c == coins (log_of events) + 1) as (λ b.
      (if b then is_some (wallet_owner events w) else was_declared_before events w c) ≡ true
      → is_some (wallet_owner events w) ≡ true) [
        | true ↦ λ is. is
        | false ↦ λ is. first-declared events w c before is
      ]) first)
  first-declared (event ∷ events) w c legal first =
      declared-stays event events w legal
      (first-declared events w c (legal-before tests rules event events legal) first)

  -- what one wallet accepted of the coin came after the other was declared
  accepted_since : (events : List Event) (v w c : ℕ) (b : Bundle) (o : RawOpening) → IsLegal tests rules events
      → was_declared_before events v c ≡ true → Has (accepted events w) b → b.coin ≡ c → Has b.openings o
      → IsSince events v c o
  unfolding accepted was_declared_before IsSince openings_of
  accepted_since [] v w c b o legal first h c_is has = absurd h
  accepted_since (Joins (Deposit account amount key) ∷ events) v w c b o legal first h c_is has =
      let before = legal-before tests rules (Joins (Deposit account amount key)) events legal in
      let n = is_noted tests rules events w b before h in
      let low : c ≤ coins (log_of events) = grind (arith, common_steps, coin_at-le) in
      let apart : c == coins (log_of events) + 1
      ≡ false = ne_eqb c (coins (log_of events) + 1) (λ e. omega (arith, low, e)) in
      inr (accepted_since events v w c b o before
      (grind (arith, common_steps)) h c_is has)
  accepted_since (Accepts u bundle ∷ events) v w c b o legal first h c_is has =
      let before = legal-before tests rules (Accepts u bundle) events legal in
      (elim (u == w) as (λ k. Has (if k then bundle ∷ accepted events w else accepted events w) b
      → IsSince (Accepts u bundle ∷ events) v c o) [
        | true ↦ λ h2. elim h2 [
          | inl is ↦ grind (arith, eq-eqb, first-declared)
          | inr later ↦ inr (accepted_since events v w c b o before first later c_is has)
        ]
        | false ↦ λ h2. inr (accepted_since events v w c b o before first h2 c_is has)
      ]) h
  accepted_since (event ∷ events) v w c b o legal first h c_is has =
      inr (accepted_since events v w c b o (legal-before tests rules event events legal) first h c_is has)

  module _ (signs : SignsBy tests) (events : List Event) (c : ℕ) (legal : IsLegal tests rules events)
      (one : HasOneLeaf tests (log_of events) c (seen events c)) where
    -- where one holds at an earlier tip, he has signed it away
    behind : (v w d e : ℕ) → was_declared_before events v c ≡ true → is_forged rules.tag events v c ≡ false
        → Holding events v c d → Holding events w c e → d < e → ⊥
    behind v w d e first unforged hv hw below =
        let log = log_of events in
        let mine = held_at tests rules events v c d legal hv in
        let other = held_at tests rules events w c e legal hw in
        let same : mine.made ≡ other.made = some_same mine.made other.made (sym mine.made_is ∙ other.made_is) in
        let shown = subst (λ k. IsShownAt tests rules log (seen events c) c k d hv.me) same
        (end_shown tests rules log (seen events c) c mine.made one d hv.me mine.openings mine.known) in
        let s = successor_in tests rules log (seen events c) c other.made one e hw.me other.openings other.known d hv.me
        shown below in
        let f = other.from s.o s.has in
        let bound = bound_since tests rules events v c hv.me legal hv.me_is unforged s.o s.tx
        (accepted_since events v w c f.0 s.o legal first f.1 f.2 f.3) s.tx_is (signs s.tx hv.me s.signed) in
        unspent tests rules log (seen events c) c d (bound_by events v) (signed_away_by events v) one hv.not_away
        (parted tests rules events v c legal) s.o s.tx (other.known.has s.o s.has)
        (walk-opened tests rules log c other.made.deposit (place_of other.made) other.openings
        (record { block = e; owner = hw.me }) other.known.walk s.o s.has) s.above s.tx_is s.parent_is bound

    level : (v w d e : ℕ) → v ≢ w → Holding events v c d → Holding events w c e → d ≡ e → ⊥
    level v w d e apart hv hw level_is =
        let log = log_of events in
        let mine = held_at tests rules events v c d legal hv in
        let other = held_at tests rules events w c e legal hw in
        let same : mine.made ≡ other.made = some_same mine.made other.made (sym mine.made_is ∙ other.made_is) in
        let shown = subst (λ k. IsShownAt tests rules log (seen events c) c k d hv.me) same
        (end_shown tests rules log (seen events c) c mine.made one d hv.me mine.openings mine.known) in
        let there = end_shown tests rules log (seen events c) c other.made one e hw.me other.openings other.known in
        owners_apart tests rules events v w hv.me hw.me legal apart hv.me_is hw.me_is
        (ap (λ (o : Owner). o.account) (shown_same tests rules log (seen events c) c other.made one e hv.me hw.me
        (subst (λ k. IsShownAt tests rules log (seen events c) c other.made k hv.me) level_is shown) there))

pub one_wallet_holds : OneWalletHoldsLegally
unfolding collides
one_wallet_holds dig rules events v w c d e digest legal apart first_v first_w none unforged_v unforged_w holds_v
    holds_w =
    let hv = holding events v c d holds_v in
    let hw = holding events w c e holds_w in
    let one = one_leaf dig digest (log_of events) c (seen events c) none in
    elim (cases_order d e) [
      | inl same ↦ level (tests_by dig) rules (λ tx owner is. is) events c legal one v w d e apart hv hw same
      | inr k ↦ elim k [
        | inl below ↦ behind (tests_by dig) rules (λ tx owner is. is) events c legal one v w d e first_v unforged_v hv
            hw below
        | inr above ↦ behind (tests_by dig) rules (λ tx owner is. is) events c legal one w v e d first_w unforged_w hw
            hv above
      ]
    ]
