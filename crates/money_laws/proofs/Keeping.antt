-- Who keeps a coin: what is known of it, and what was before an event.
use Rattle.money_laws.proofs.Basics.{◌≡◌, ◌≢◌, ◌⊎◌, ℕ, ◌<◌, ◌==◌, true, false, if◌then◌else◌, List, ◌∷◌, Some, inl, inr, refl, sym, ap, ◌∙◌, subst, arith, rules, list_any, cases_eq, ne_eqb, eqb-true, and_parts, or_cases, not-true, true≢false, false≢true, false_from_ne_true, common_steps}
use Rattle.money_laws.proofs.CoinWords.{Owner, Body, RawOpening, Deposit, coin_at, exits, Tests, Rules, tests_by, last_owner_of, coin_at-le, Has}
use Rattle.money_laws.proofs.WorldWords.{IsDigest, Event, Declares, Joins, Accepts, Binds, TakesBack, log_of, wallet_owner, accepted, bound_by, taken_back, not_taken, leaf_at, signed_away_by, is_sent_from, is_bundle, seen, strings_of, has_clash, forges_one, was_deposited, IsLegal, some_same, none_some, any-some, IsShownAt, all_shown, seen-grow, SignsBy, is_noted, owner-is, line_bound, unspent, NoneStands, none-stands, none-before, deposit-caller, IsSpend, keeps}
use Rattle.world_laws.proofs.Clash.{HasOneLeaf, one_leaf}
use Rattle.world_laws.proofs.Absences.{names, away-untake, away-unbind, IsParted, parted, back-more}
use Rattle.world_laws.proofs.Held.{Known, HeldAt, known-from, deposited-coin, empty-walk, end_shown, shown_same}
use Rattle.world_rules.proofs.WalletAccepts.{bundle-is}

-- what it is to keep
pub record Keeping (events : List Event) (w c e : ℕ) : Type 0 where
  pub me : Owner
  pub me_is : wallet_owner events w ≡ Some me
  pub source : (was_deposited me e (coin_at (log_of events) c) ≡ true)
      ⊎ (list_any (is_bundle c e) (accepted events w) ≡ true)
  pub not_away : is_sent_from (signed_away_by events w) c e ≡ false

pub keeping : (events : List Event) (w c e : ℕ) → keeps events w c e ≡ true → Keeping events w c e
unfolding keeps
keeping events w c e is = grind (arith, common_steps, false≢true, and_parts, or_cases, not-true)

-- the coin that is kept, with a history up to e
pub kept_at : (tests : Tests) (rules : Rules) (events : List Event) (w c e : ℕ) → IsLegal tests rules events
    → (h : Keeping events w c e) → HeldAt tests rules events w c e h.me
kept_at tests rules events w c e legal h =
    elim h.source [
      | inl deposited ↦ grind (arith, common_steps, deposited-coin, empty-walk)
      | inr accepted_is ↦
          let r = any-some (is_bundle c e) (accepted events w) accepted_is in
          let n = is_noted tests rules events w r.0 legal r.1 in
          let name = bundle-is c e r.0 r.2 in
          let mine : last_owner_of n.links ≡ h.me = n.mine ∙ some_same n.me h.me (sym n.me_is ∙ h.me_is) in
          let found : coin_at (log_of events) c ≡ Some n.history.made =
          ap (coin_at (log_of events)) (sym name.0) ∙ n.history.coin in
          record {
            made = n.history.made;
            made_is = found;
            openings = r.0.openings;
            known = subst (λ x. Known tests rules (log_of events) (seen events c) c n.history.made e x
                r.0.openings) mine
                (known-from tests rules (log_of events) (seen events) r.0 n.links c e n.history.made n.history
                n.is_seen name.0 name.1 found);
            from = λ o k. (r.0, r.1, name.0, k);
          }
    ]

-- ---- keeping, before the event

abbrev pub KeptBefore : (event : Event) (events : List Event) (w c e : ℕ) → Type 0
KeptBefore event events w c e = Keeping events w c e ⊎ NoneStands (log_of (event ∷ events)) c

before-deposit : (tests : Tests) (rules : Rules) (account amount : ℕ) (key : List ℕ) (events : List Event)
    (w c e : ℕ) → IsLegal tests rules events → Keeping (Joins (Deposit account amount key) ∷ events) w c e
    → KeptBefore (Joins (Deposit account amount key)) events w c e
unfolding log_of wallet_owner accepted bound_by taken_back coin_at exits
before-deposit tests rules account amount key events w c e legal h =
    grind (arith, common_steps, cases_eq, all_shown, coin_at-le, ne_eqb)

-- a coin that is kept after an event was kept before it, or no exit of it stands after the event
pub kept_before : (tests : Tests) (rules : Rules) (event : Event) (events : List Event) (w c e : ℕ)
    → IsLegal tests rules (event ∷ events) → Keeping (event ∷ events) w c e → KeptBefore event events w c e
unfolding log_of wallet_owner accepted bound_by taken_back coin_at exits IsLegal
kept_before tests rules (Declares v me) events w c e legal h =
    (elim (v == w) as (λ b. (v == w) ≡ b → (if b then Some me else wallet_owner events w) ≡ Some h.me
    → KeptBefore (Declares v me) events w c e) [
      | true ↦ λ same is. absurd (new-one (eqb-true v w same) (some_same me h.me is) h.source)
      | false ↦ λ apart is. inl (record { me = h.me; me_is = is; source = h.source; not_away = h.not_away })
    ]) refl h.me_is
  where
    new-one : v ≡ w → me ≡ h.me
        → (was_deposited h.me e (coin_at (log_of events) c) ≡ true)
        ⊎ (list_any (is_bundle c e) (accepted events w) ≡ true) → ⊥
    new-one same mine (inl deposited) =
        grind (arith, common_steps, false≢true, owner-is, and_parts, true≢false, deposit-caller)
    new-one same mine (inr was) =
        let r = any-some (is_bundle c e) (accepted events w) was in
        let n = is_noted tests rules events w r.0 legal.1 r.1 in
        none_some n.me (sym legal.0.new ∙ ap (wallet_owner events) same ∙ n.me_is)
kept_before tests rules (Joins (Deposit account amount key)) events w c e legal h =
    before-deposit tests rules account amount key events w c e legal.1 h
kept_before tests rules (Accepts v bundle) events w c e legal h =
    (elim (v == w) as (λ b. (was_deposited h.me e (coin_at (log_of events) c) ≡ true)
    ⊎ (list_any (is_bundle c e) (if b then bundle ∷ accepted events w else accepted events w) ≡ true)
    → KeptBefore (Accepts v bundle) events w c e) [
      | false ↦ λ source. inl (record { me = h.me; me_is = h.me_is; source = source; not_away = h.not_away })
      | true ↦ λ source. elim source [
        | inl deposited ↦ grind (arith, common_steps)
        | inr was ↦ elim (or_cases (is_bundle c e bundle) (list_any (is_bundle c e) (accepted events w)) was) [
          | inr earlier ↦ grind (arith, common_steps)
          | inl this ↦ inr (none-stands (log_of events) bundle.coin c legal.0.none_stands
              (eqb-true bundle.coin c (and_parts (bundle.coin == c) (bundle.tip == e) this).0))
        ]
      ]
    ]) h.source
kept_before tests rules (Binds v body) events w c e legal h = grind (arith, common_steps, away-unbind)
kept_before tests rules (TakesBack v q bundle) events w c e legal h =
    (elim (v == w) as (λ b. (v == w) ≡ b
    → is_sent_from (not_taken (if b then q ∷ taken_back events w else taken_back events w) (bound_by events w)) c e
    ≡ false → KeptBefore (TakesBack v q bundle) events w c e) [
      | false ↦ λ apart off. inl (record { me = h.me; me_is = h.me_is; source = h.source; not_away = off })
      | true ↦ λ same off. elim (cases_eq bundle.coin c) [
        | inl this ↦ inr (none-stands (log_of events) bundle.coin c legal.0.none_stands this)
        | inr other ↦ grind (arith, common_steps, away-untake, eqb-true)
      ]
    ]) refl h.not_away
  where
    -- the leaf is of another coin
    named : bundle.coin ≢ c → v ≡ w → (body : Body) → leaf_at q (bound_by events w) ≡ Some body
        → names c e body ≡ false
    named other same body is = grind (arith, common_steps, some_same, false_from_ne_true, eqb-true, and_parts)
kept_before tests rules event events w c e legal h =
    inl (record { me = h.me; me_is = h.me_is; source = h.source; not_away = h.not_away })

-- ---- what is known at an event on a coin that is kept before it

pub record AtTip (tests : Tests) (rules : Rules) (events : List Event) (w c e : ℕ) (more : List RawOpening)
    : Type 0 where
  pub keep : Keeping events w c e
  pub held : HeldAt tests rules events w c e keep.me
  pub one_before : HasOneLeaf tests (log_of events) c (seen events c)
  pub one : HasOneLeaf tests (log_of events) c more
  pub has : (o : RawOpening) → Has (seen events c) o → Has more o
  pub parts : IsParted tests (log_of events) more c (bound_by events w) (signed_away_by events w)

module _ (dig : List ℕ → List ℕ) (digest : IsDigest dig) (rules : Rules) (w c e : ℕ) where
  pub at_tip : (event : Event) (events : List Event) → IsLegal (tests_by dig) rules events
      → has_clash dig (strings_of dig c (seen (event ∷ events) c)) ≡ false → Keeping events w c e
      → AtTip (tests_by dig) rules events w c e (seen (event ∷ events) c)
  at_tip event events legal none h = record {
    keep = h;
    held = kept_at (tests_by dig) rules events w c e legal h;
    one_before = one_leaf dig digest (log_of events) c (seen events c) (none-before dig event events c none);
    one = one_leaf dig digest (log_of events) c (seen (event ∷ events) c) none;
    has = seen-grow event events c;
    parts = λ body b c_is. elim (parted (tests_by dig) rules events w c legal body b c_is) [
      | inl l ↦ inl l
      | inr k ↦ inr (back-more (tests_by dig) (log_of events) (seen events c) (seen (event ∷ events) c) body
          (seen-grow event events c) k)
    ];
  }

module _ (tests : Tests) (rules : Rules) (signs : SignsBy tests) (events : List Event) (w c e : ℕ)
    (more : List RawOpening) (at : AtTip tests rules events w c e more) where
  -- whoever is shown to own the block e is the keeper
  pub keeper-owns : (owner : Owner) (n : ℕ)
      → IsShownAt tests rules (log_of events) (seen events c) c at.held.made n owner → n ≡ e → owner ≡ at.keep.me
  keeper-owns owner n shown is = grind (arith, common_steps, shown_same, end_shown)

  -- no opening of the event's call spends the tip
  pub tip-kept : (openings : List RawOpening)
      → forges_one rules.tag (wallet_owner events w) (bound_by events w) c openings ≡ false → (o : RawOpening)
      → Has openings o → Has more o → (parent : ℕ) (owner : Owner)
      → IsSpend tests rules (log_of events) c o parent owner → parent ≡ e → owner ≡ at.keep.me → ⊥
  tip-kept openings none o has seen_it parent owner spend at_tip mine =
      let off : forges_one rules.tag (Some at.keep.me) (bound_by events w) c openings ≡ false =
      subst (λ x. forges_one rules.tag x (bound_by events w) c openings ≡ false) at.keep.me_is none in
      let b = line_bound rules c at.keep.me (bound_by events w) openings off o spend.tx has spend.tx_is
      (signs spend.tx at.keep.me (subst (λ x. tests.is_signed spend.tx x ≡ true) mine spend.signed)) in
      unspent tests rules (log_of events) more c e (bound_by events w) (signed_away_by events w) at.one
      at.keep.not_away at.parts o spend.tx seen_it spend.opened (subst (λ n. n < o.block) at_tip spend.above)
      spend.tx_is (spend.parent_is ∙ at_tip) b
