-- Who holds a coin, the bundles that were accepted, and that no spend of a held tip was.
use Rattle.world_laws.proofs.Basics.{◌≡◌, ◌≢◌, ◌⊎◌, ℕ, ◌<◌, ◌==◌, true, false, if◌then◌else◌, List, [], ◌∷◌, Option, Some, inl, inr, refl, sym, ap, ◌∙◌, subst, arith, rules, is_some, nat_eq, list_any, option_eq, cases_eq, ne_eqb, eq-eqb, eqb-true, and_parts, and_from, and_cases, or_parts, or_cases, not-true, true≢false, false≢true, bytes_eq-Decides, common_steps, some_same, none_some, any-none, any-some}
use Rattle.world_laws.proofs.CoinWords.{Owner, Body, RawOpening, SignedTx, Links, RootCall, last_owner_of, is_signed_by, coin_at, is_withdrawn, Tests, Rules, Bundle, transfer_of, IsHistory, histories_stay, Has, has-left, any-has, has-filter, is_owner}
use Rattle.world_laws.proofs.WorldWords.{Event, Declares, Accepts, Guards, Releases, log_of, wallet_owner, accepted, bound_by, signed_away_by, is_sent_from, is_bundle, guarded_by, Joins, openings_of, seen, is_same_body, forges_one, is_forged, was_deposited, holds, IsLegal}
use Rattle.world_laws.proofs.Clash.{IsOpened, HasOneLeaf}
use Rattle.world_laws.proofs.Walk.{empty-no_tx}
use Rattle.world_laws.proofs.Shown.{seen-grow}
use Rattle.world_laws.proofs.Absences.{names, tx-coin, tx-last, IsParted}

-- a signature that the tests take is valid
abbrev pub SignsBy : Tests → Type 0
SignsBy tests = (tx : SignedTx) (owner : Owner) → tests.is_signed tx owner ≡ true → is_signed_by tx owner ≡ true

pub owner-is : (one other : Owner) → is_owner one other ≡ true → one ≡ other
owner-is one other is = grind (arith, common_steps, and_parts, eqb-true, bytes_eq-Decides)

-- ---- the owner and the bodies stay

pub owner-stays : (tests : Tests) (rules : Rules) (event : Event) (events : List Event) (w : ℕ) (me : Owner)
    → IsLegal tests rules (event ∷ events) → wallet_owner events w ≡ Some me
    → wallet_owner (event ∷ events) w ≡ Some me
unfolding IsLegal wallet_owner
owner-stays tests rules event events w me legal is = grind (arith, common_steps, cases_eq, none_some, ne_eqb)

bound-grow : (event : Event) (events : List Event) (w : ℕ) (body : Body) → Has (bound_by events w) body
    → Has (bound_by (event ∷ events) w) body
unfolding bound_by
bound-grow event events w body h = grind (arith, common_steps)

-- an opening of the coin that was accepted since the wallet was declared
unfoldable pub IsSince : List Event → ℕ → ℕ → RawOpening → Type 0
IsSince [] w c o = ⊥
IsSince (event ∷ events) w c o =
    ((is_some (wallet_owner events w) ≡ true) × Has (openings_of c event) o) ⊎ IsSince events w c o

pub owner-some : (events : List Event) (w : ℕ) → is_some (wallet_owner events w) ≡ true
    → (me : Owner) × (wallet_owner events w ≡ Some me)
owner-some events w is = grind (arith, common_steps, false≢true)

module _ (tests : Tests) (rules : Rules) where
  since-declared : (events : List Event) (w c : ℕ) (o : RawOpening) → IsLegal tests rules events
      → IsSince events w c o → is_some (wallet_owner events w) ≡ true
  unfolding IsSince IsLegal
  since-declared [] w c o legal is = absurd is
  since-declared (event ∷ events) w c o legal (inl now) =
      let m = owner-some events w now.0 in ap is_some (owner-stays tests rules event events w m.0 legal m.1)
  since-declared (event ∷ events) w c o legal (inr later) =
      let m = owner-some events w (since-declared events w c o legal.1 later) in
      ap is_some (owner-stays tests rules event events w m.0 legal m.1)

-- ---- a signature that isn't forged is over a bound body

pub record IsBoundTo (bodies : List Body) (tx : SignedTx) : Type 0 where
  pub body : Body
  pub has : Has bodies body
  pub same : is_same_body tx.body body ≡ true

pub line_bound : (rules : Rules) (c : ℕ) (me : Owner) (bodies : List Body) (os : List RawOpening)
    → forges_one rules.tag (Some me) bodies c os ≡ false → (o : RawOpening) (tx : SignedTx) → Has os o
    → transfer_of rules c o ≡ Some tx → is_signed_by tx me ≡ true → IsBoundTo bodies tx
line_bound rules c me bodies os none o tx h is signed =
    grind (arith, common_steps, any-none, and_cases, true≢false, any-some)

pub bound_since : (tests : Tests) (rules : Rules) (events : List Event) (w c : ℕ) (me : Owner)
    → IsLegal tests rules events → wallet_owner events w ≡ Some me → is_forged rules.tag events w c ≡ false
    → (o : RawOpening) (tx : SignedTx) → IsSince events w c o → transfer_of rules c o ≡ Some tx
    → is_signed_by tx me ≡ true → IsBoundTo (bound_by events w) tx
unfolding IsSince IsLegal is_forged
bound_since tests rules [] w c me legal me_is none o tx since is signed = absurd since
bound_since tests rules (event ∷ events) w c me legal me_is none o tx (inl here) is signed =
    let m = owner-some events w here.0 in
    let same : m.0 ≡ me = some_same m.0 me (sym (owner-stays tests rules event events w m.0 legal m.1) ∙ me_is) in
    let off = subst (λ x. forges_one rules.tag x (bound_by events w) c (openings_of c event) ≡ false)
    (m.1 ∙ ap (λ (x : Owner). Some x) same) (or_parts _ _ none).0 in
    let b = line_bound rules c me (bound_by events w) (openings_of c event) off o tx here.1 is signed in
    record { body = b.body; has = bound-grow event events w b.body b.has; same = b.same }
bound_since tests rules (event ∷ events) w c me legal me_is none o tx (inr later) is signed =
    let m = owner-some events w (since-declared tests rules events w c o legal.1 later) in
    let same : m.0 ≡ me = some_same m.0 me (sym (owner-stays tests rules event events w m.0 legal m.1) ∙ me_is) in
    let b = bound_since tests rules events w c me legal.1 (m.1 ∙ ap (λ (x : Owner). Some x) same)
    (or_parts _ _ none).1 o tx later is signed in
    record { body = b.body; has = bound-grow event events w b.body b.has; same = b.same }

last-is : (one other : Option ℕ) → option_eq nat_eq one other ≡ true → one ≡ other
last-is one other is = grind (arith, common_steps, false≢true, eqb-true)

-- the bound body names the coin and the parent, and has the transfer's last block
bound-facts : (rules : Rules) (c e : ℕ) (bodies : List Body) (o : RawOpening) (tx : SignedTx)
    → transfer_of rules c o ≡ Some tx → tx.body.parent ≡ e → (b : IsBoundTo bodies tx)
    → (b.body.coin ≡ c) × (b.body.parent ≡ e) × (tx.body.last ≡ b.body.last)
bound-facts rules c e bodies o tx is parent b = grind (arith, common_steps, and_parts, eqb-true, tx-coin, last-is)

-- No opening after e that opens its root shows a spend of e over a bound body, where each body of the coin either
-- stands, and none that stands spends e, or is taken back on absences among the openings. It is the one place that
-- says what 'signed away' means for the openings of others.
pub unspent : (tests : Tests) (rules : Rules) (log : List RootCall) (os : List RawOpening) (c e : ℕ)
    (bodies standing : List Body) → HasOneLeaf tests log c os → is_sent_from standing c e ≡ false
    → IsParted tests log os c bodies standing → (o : RawOpening) (tx : SignedTx) → Has os o → IsOpened tests log c o
    → e < o.block → transfer_of rules c o ≡ Some tx → tx.body.parent ≡ e → IsBoundTo bodies tx → ⊥
unspent tests rules log os c e bodies standing one not_away parts o tx has opened above is parent b =
    let f = bound-facts rules c e bodies o tx is parent b in
    grind (arith, common_steps, true≢false, any-has, names, and_from, eq-eqb, tx-last, empty-no_tx)

-- ---- what it is to hold

pub record Holding (events : List Event) (w c e : ℕ) : Type 0 where
  pub me : Owner
  pub me_is : wallet_owner events w ≡ Some me
  pub source : (was_deposited me e (coin_at (log_of events) c) ≡ true)
      ⊎ (list_any (is_bundle c e) (accepted events w) ≡ true)
  pub not_away : is_sent_from (signed_away_by events w) c e ≡ false
  pub not_withdrawn : is_withdrawn (log_of events) c ≡ false

pub holding : (events : List Event) (w c e : ℕ) → holds events w c e ≡ true → Holding events w c e
unfolding holds
holding events w c e is = grind (arith, common_steps, false≢true, and_parts, or_cases, not-true)

-- ---- accepted bundles

pub record IsNoted (tests : Tests) (rules : Rules) (events : List Event) (w : ℕ) (b : Bundle) : Type 0 where
  pub me : Owner
  pub me_is : wallet_owner events w ≡ Some me
  pub links : Links
  pub history : IsHistory tests rules (log_of events) b links
  pub mine : last_owner_of links ≡ me
  pub is_seen : (o : RawOpening) → Has b.openings o → Has (seen events b.coin) o
  pub is_since : (o : RawOpening) → Has b.openings o → IsSince events w b.coin o

pub history-stays : (tests : Tests) (rules : Rules) (event : Event) (events : List Event) (b : Bundle) (links : Links)
    → IsHistory tests rules (log_of events) b links → IsHistory tests rules (log_of (event ∷ events)) b links
unfolding log_of
history-stays tests rules (Joins call) events b links is = histories_stay tests rules (log_of events) call b links is
history-stays tests rules event events b links is = is

noted-grow : (tests : Tests) (rules : Rules) (event : Event) (events : List Event) (w : ℕ) (b : Bundle)
    → IsLegal tests rules (event ∷ events) → IsNoted tests rules events w b
    → IsNoted tests rules (event ∷ events) w b
unfolding IsSince
noted-grow tests rules event events w b legal n = grind (arith, common_steps, owner-stays, history-stays, seen-grow)

noted-new : (tests : Tests) (rules : Rules) (events : List Event) (w : ℕ) (b : Bundle)
    → IsLegal tests rules (Accepts w b ∷ events) → IsNoted tests rules (Accepts w b ∷ events) w b
unfolding IsSince IsLegal log_of seen openings_of wallet_owner
noted-new tests rules events w b legal = grind (arith, common_steps, has-left, eq-eqb)

pub is_noted : (tests : Tests) (rules : Rules) (events : List Event) (w : ℕ) (b : Bundle)
    → IsLegal tests rules events → Has (accepted events w) b → IsNoted tests rules events w b
unfolding accepted IsLegal
is_noted tests rules [] w b legal h = absurd h
is_noted tests rules (Accepts v bundle ∷ events) w b legal h =
    (elim (v == w) as (λ k. (v == w) ≡ k → Has (if k then bundle ∷ accepted events w else accepted events w) b
    → IsNoted tests rules (Accepts v bundle ∷ events) w b) [
      | true ↦ λ same h2. elim h2 [
        | inl is ↦ subst (λ x. IsNoted tests rules (Accepts v bundle ∷ events) w x) is
            (subst (λ x. IsNoted tests rules (Accepts v bundle ∷ events) x bundle) (eqb-true v w same)
            (noted-new tests rules events v bundle legal))
        | inr later ↦ noted-grow tests rules (Accepts v bundle) events w b legal
            (is_noted tests rules events w b legal.1 later)
      ]
      | false ↦ λ apart h2. noted-grow tests rules (Accepts v bundle) events w b legal
          (is_noted tests rules events w b legal.1 h2)
    ]) refl h
is_noted tests rules (event ∷ events) w b legal h =
    noted-grow tests rules event events w b legal (is_noted tests rules events w b legal.1 h)

-- ---- guarded bundles

pub record IsKept (tests : Tests) (rules : Rules) (events : List Event) (b : Bundle) : Type 0 where
  pub links : Links
  pub history : IsHistory tests rules (log_of events) b links
  pub is_seen : (o : RawOpening) → Has b.openings o → Has (seen events b.coin) o

abbrev pub kept-grow : (tests : Tests) (rules : Rules) (event : Event) (events : List Event) (b : Bundle)
    → IsKept tests rules events b → IsKept tests rules (event ∷ events) b
kept-grow tests rules event events b k = record {
  links = k.links;
  history = history-stays tests rules event events b k.links k.history;
  is_seen = λ o h. seen-grow event events b.coin o (k.is_seen o h);
}

kept-new : (tests : Tests) (rules : Rules) (events : List Event) (g : ℕ) (b : Bundle)
    → IsLegal tests rules (Guards g b ∷ events) → IsKept tests rules (Guards g b ∷ events) b
unfolding IsLegal log_of seen openings_of
kept-new tests rules events g b legal = grind (arith, common_steps, has-left, eq-eqb)

pub is_kept : (tests : Tests) (rules : Rules) (events : List Event) (g : ℕ) (b : Bundle)
    → IsLegal tests rules events → Has (guarded_by events g) b → IsKept tests rules events b
unfolding guarded_by IsLegal
is_kept tests rules [] g b legal h = absurd h
is_kept tests rules (Guards v bundle ∷ events) g b legal h =
    (elim (v == g) as (λ k. Has (if k then bundle ∷ guarded_by events g else guarded_by events g) b
    → IsKept tests rules (Guards v bundle ∷ events) b) [
      | true ↦ λ h2. elim h2 [
        | inl is ↦ subst (λ x. IsKept tests rules (Guards v bundle ∷ events) x) is
            (kept-new tests rules events v bundle legal)
        | inr later ↦ kept-grow tests rules (Guards v bundle) events b
            (is_kept tests rules events g b legal.1 later)
      ]
      | false ↦ λ h2. kept-grow tests rules (Guards v bundle) events b (is_kept tests rules events g b legal.1 h2)
    ]) h
is_kept tests rules (Releases v c e ∷ events) g b legal h =
    let there : Has (guarded_by events g) b = grind (arith, has-filter) in
    kept-grow tests rules (Releases v c e) events b (is_kept tests rules events g b legal.1 there)
is_kept tests rules (event ∷ events) g b legal h =
    kept-grow tests rules event events b (is_kept tests rules events g b legal.1 h)

-- ---- wallets have accounts of their own

pub owners_apart : (tests : Tests) (rules : Rules) (events : List Event) (v w : ℕ) (one other : Owner)
    → IsLegal tests rules events → v ≢ w → wallet_owner events v ≡ Some one → wallet_owner events w ≡ Some other
    → one.account ≢ other.account
unfolding wallet_owner IsLegal
owners_apart tests rules [] v w one other legal apart one_is other_is same = none_some one one_is
owners_apart tests rules (Declares u me ∷ events) v w one other legal apart one_is other_is same =
    (elim (u == v) as (λ a. (u == v) ≡ a → (if a then Some me else wallet_owner events v) ≡ Some one → ⊥) [
      | true ↦ grind (arith, eqb-true, some_same)
      | false ↦ λ v_isnt mine. (elim (u == w) as (λ b. (u == w) ≡ b
          → (if b then Some me else wallet_owner events w) ≡ Some other → ⊥) [
            | true ↦ λ w_is yours. legal.0.own_account v one mine
                (same ∙ ap (λ (o : Owner). o.account) (sym (some_same me other yours)))
            | false ↦ λ w_isnt yours. owners_apart tests rules events v w one other legal.1 apart mine yours same
          ]) refl other_is
    ]) refl one_is
owners_apart tests rules (event ∷ events) v w one other legal apart one_is other_is same =
    owners_apart tests rules events v w one other legal.1 apart one_is other_is same
