-- What was before an event: no exhibit, and the coin held by the same owner, or no exit of it stands after the event.
use Rattle.world_laws.proofs.Basics.{◌≡◌, ◌≢◌, ◌⊎◌, ℕ, ◌+◌, ◌==◌, true, false, if◌then◌else◌, List, [], ◌∷◌, ◌++◌, Some, inl, inr, refl, sym, ap, ◌∙◌, subst, arith, filter, rules, ◌&&◌, list_any, flat_map, cases_eq, ne_eqb, eq-eqb, eqb-true, and_parts, or_parts, or_cases, or_left, or_right, true≢false, false≢true, false_from_ne_true, common_steps, some_same, none_some, any-some, append-assoc, has-kept}
use Rattle.world_laws.proofs.CoinWords.{Owner, Body, RawOpening, RootCall, Deposit, Finish, CoinView, ExitView, coins, coin_at, new_coin, Exit, exits, exit_view, exits_of, is_withdrawn, exit_at, has_no_open_challenge, Tests, Rules, tests_by, coin_at-le, Has}
use Rattle.world_laws.proofs.WorldWords.{IsDigest, Event, Declares, Joins, Accepts, Binds, TakesBack, log_of, wallet_owner, accepted, bound_by, taken_back, not_taken, leaf_at, is_sent_from, is_bundle, openings_of, seen, strings_of, has_clash, forges_one, is_forged, strings_in, was_deposited, deposits_by, IsLegal}
use Rattle.world_laws.proofs.HeldCoins.{one_leaf, all_shown, seen-grow, names, away-untake, away-unbind, parted, back-more, Holding, is_noted, owner-is, held_at}
use Rattle.world_laws.proofs.DueCalls.{has-mapped}
use Rattle.world_laws.proofs.Watched.{AtEvent}

-- ---- events that don't exhibit didn't before

pub strings-append : (dig : List ℕ → List ℕ) (c : ℕ) (xs ys : List RawOpening)
    → strings_of dig c (xs ++ ys) ≡ strings_of dig c xs ++ strings_of dig c ys
unfolding strings_of
strings-append dig c [] ys = refl
strings-append dig c (x ∷ xs) ys =
    ap (λ l. strings_in dig c x ++ l) (strings-append dig c xs ys)
    ∙ append-assoc (strings_in dig c x) (flat_map (strings_in dig c) xs) (flat_map (strings_in dig c) ys)

clash-before : (dig : List ℕ → List ℕ) (xs ys : List (List ℕ)) → has_clash dig (xs ++ ys) ≡ false
    → has_clash dig ys ≡ false
unfolding has_clash
clash-before dig [] ys none = none
clash-before dig (x ∷ xs) ys none = clash-before dig xs ys (or_parts _ _ none).1

pub none-before : (dig : List ℕ → List ℕ) (event : Event) (events : List Event) (c : ℕ)
    → has_clash dig (strings_of dig c (seen (event ∷ events) c)) ≡ false
    → has_clash dig (strings_of dig c (seen events c)) ≡ false
unfolding seen
none-before dig event events c none =
    clash-before dig (strings_of dig c (openings_of c event)) (strings_of dig c (seen events c))
    (subst (λ l. has_clash dig l ≡ false) (strings-append dig c (openings_of c event) (seen events c)) none)

pub forged-parts : (tag : List ℕ) (event : Event) (events : List Event) (w c : ℕ)
    → is_forged tag (event ∷ events) w c ≡ false
    → (forges_one tag (wallet_owner events w) (bound_by events w) c (openings_of c event) ≡ false)
    × (is_forged tag events w c ≡ false)
unfolding is_forged
forged-parts tag event events w c none = or_parts _ _ none

-- ---- holding, before the event

withdrawn-before : (call : RootCall) (log : List RootCall) (c : ℕ) → is_withdrawn (call ∷ log) c ≡ false
    → is_withdrawn log c ≡ false
unfolding is_withdrawn
withdrawn-before (Finish account k f) log c none =
    (or_parts ((k == c) && has_no_open_challenge (exit_at log k f)) (is_withdrawn log c) none).1
withdrawn-before call log c none = none

pub deposit-caller : (log : List RootCall) (c : ℕ) (made : CoinView) → coin_at log c ≡ Some made
    → list_any (deposits_by made.owner.account) log ≡ true
unfolding coin_at
deposit-caller [] c made is = absurd (none_some made is)
deposit-caller (Deposit account amount key ∷ log) c made is =
    (elim (c == coins log + 1) as (λ b. (if b then Some (new_coin log account amount key) else coin_at log c)
    ≡ Some made → list_any (deposits_by made.owner.account) (Deposit account amount key ∷ log) ≡ true) [
      | true ↦ grind (arith, common_steps, or_left, eq-eqb, some_same)
      | false ↦ λ later. grind (arith, common_steps, deposit-caller log c made later, or_right)
    ]) is
deposit-caller (call ∷ log) c made is = grind (arith, common_steps, deposit-caller log c made is, or_right)

abbrev pub NoneStands : List RootCall → ℕ → Type 0
NoneStands log c = (x : Exit) → Has (exits log) x → x.coin ≡ c → ⊥

pub none-stands : (log : List RootCall) (k c : ℕ) → exits_of log k ≡ [] → k ≡ c → NoneStands log c
unfolding exits_of
none-stands log k c none same x there c_is =
    subst (λ (l : List ExitView). Has l (exit_view x)) none
    (has-mapped exit_view (filter (λ exit. exit.coin == k) (exits log)) x
    (has-kept (λ (exit : Exit). exit.coin == k) (exits log) x there (eq-eqb x.coin k (c_is ∙ sym same))))

abbrev pub HeldBefore : (event : Event) (events : List Event) (w c e : ℕ) → Owner → Type 0
HeldBefore event events w c e me = ((h : Holding events w c e) × (h.me ≡ me)) ⊎ NoneStands (log_of (event ∷ events)) c

before-deposit : (tests : Tests) (rules : Rules) (account amount : ℕ) (key : List ℕ) (events : List Event)
    (w c e : ℕ) → IsLegal tests rules events → (h : Holding (Joins (Deposit account amount key) ∷ events) w c e)
    → HeldBefore (Joins (Deposit account amount key)) events w c e h.me
unfolding log_of wallet_owner accepted bound_by taken_back coin_at exits
before-deposit tests rules account amount key events w c e legal h =
    elim (cases_eq c (coins (log_of events) + 1)) [
      | inl new ↦ inr (λ x there c_is.
          let s = all_shown tests rules events legal x there in
          let low = coin_at-le (log_of events) x.coin s.made s.made_is in
          absurd (omega (arith, low, c_is)))
      | inr apart ↦ inl (
        grind (arith, ne_eqb, withdrawn-before),
        refl,
      )
    ]

-- a coin that is held after an event was held before it by the same owner, or no exit of it stands after the event
pub held_before : (tests : Tests) (rules : Rules) (event : Event) (events : List Event) (w c e : ℕ)
    → IsLegal tests rules (event ∷ events) → (h : Holding (event ∷ events) w c e)
    → HeldBefore event events w c e h.me
unfolding log_of wallet_owner accepted bound_by taken_back coin_at exits IsLegal
held_before tests rules (Declares v me) events w c e legal h =
    (elim (v == w) as (λ b. (v == w) ≡ b → (if b then Some me else wallet_owner events w) ≡ Some h.me
    → HeldBefore (Declares v me) events w c e h.me) [
      | true ↦ λ same is. absurd (new-one (eqb-true v w same) (some_same me h.me is) h.source)
      | false ↦ λ apart is. inl (
        grind (arith),
        refl,
      )
    ]) refl h.me_is
  where
    new-one : v ≡ w → me ≡ h.me
        → (was_deposited h.me e (coin_at (log_of events) c) ≡ true)
        ⊎ (list_any (is_bundle c e) (accepted events w) ≡ true) → ⊥
    new-one same mine (inl deposited) =
        grind (arith, common_steps, false≢true, owner-is, and_parts, true≢false, deposit-caller)
    new-one same mine (inr was) =
        let r = any-some (is_bundle c e) (accepted events w) was in
        let n = is_noted tests rules events w r.0 legal.1 r.1 in
        none_some n.me (sym legal.0.new ∙ ap (wallet_owner events) same ∙ n.me_is)
held_before tests rules (Joins (Deposit account amount key)) events w c e legal h =
    before-deposit tests rules account amount key events w c e legal.1 h
held_before tests rules (Joins call) events w c e legal h = inl (
  grind (arith, withdrawn-before),
  refl,
)
held_before tests rules (Accepts v bundle) events w c e legal h =
    (elim (v == w) as (λ b. (was_deposited h.me e (coin_at (log_of events) c) ≡ true)
    ⊎ (list_any (is_bundle c e) (if b then bundle ∷ accepted events w else accepted events w) ≡ true)
    → HeldBefore (Accepts v bundle) events w c e h.me) [
      | false ↦ λ source. inl (
        grind (arith),
        refl,
      )
      | true ↦ λ source. elim source [
        | inl deposited ↦ inl (
          grind (arith),
          refl,
        )
        | inr was ↦ elim (or_cases (is_bundle c e bundle) (list_any (is_bundle c e) (accepted events w)) was) [
          | inr earlier ↦ inl (
            grind (arith),
            refl,
          )
          | inl this ↦ inr (none-stands (log_of events) bundle.coin c legal.0.none_stands
              (eqb-true bundle.coin c (and_parts (bundle.coin == c) (bundle.tip == e) this).0))
        ]
      ]
    ]) h.source
held_before tests rules (Binds v body) events w c e legal h = inl (
  grind (arith, away-unbind),
  refl,
)
held_before tests rules (TakesBack v q bundle) events w c e legal h =
    (elim (v == w) as (λ b. (v == w) ≡ b
    → is_sent_from (not_taken (if b then q ∷ taken_back events w else taken_back events w) (bound_by events w)) c e
    ≡ false → HeldBefore (TakesBack v q bundle) events w c e h.me) [
      | false ↦ λ apart off. inl (
        grind (arith),
        refl,
      )
      | true ↦ λ same off. elim (cases_eq bundle.coin c) [
        | inl this ↦ inr (none-stands (log_of events) bundle.coin c legal.0.none_stands this)
        | inr other ↦ inl (
          grind (arith, away-untake, eqb-true),
          refl,
        )
      ]
    ]) refl h.not_away
  where
    -- the leaf is of another coin
    named : bundle.coin ≢ c → v ≡ w → (body : Body) → leaf_at q (bound_by events w) ≡ Some body
        → names c e body ≡ false
    named other same body is = grind (arith, common_steps, some_same, false_from_ne_true, eqb-true, and_parts)
held_before tests rules event events w c e legal h = inl (
  grind (arith),
  refl,
)

pub legal-before : (tests : Tests) (rules : Rules) (event : Event) (events : List Event)
    → IsLegal tests rules (event ∷ events) → IsLegal tests rules events
unfolding IsLegal
legal-before tests rules event events legal = legal.1

-- ---- what is known at an event on a held coin

module _ (dig : List ℕ → List ℕ) (digest : IsDigest dig) (rules : Rules) (w c e : ℕ) where
  unfoldable pub at_event : (event : Event) (events : List Event) → IsLegal (tests_by dig) rules events
      → has_clash dig (strings_of dig c (seen (event ∷ events) c)) ≡ false → (h : Holding events w c e)
      → AtEvent (tests_by dig) rules events w c e (seen (event ∷ events) c)
  at_event event events legal none h = record {
    hold = h;
    held = held_at (tests_by dig) rules events w c e legal h;
    one_before = one_leaf dig digest (log_of events) c (seen events c) (none-before dig event events c none);
    one = one_leaf dig digest (log_of events) c (seen (event ∷ events) c) none;
    has = seen-grow event events c;
    parts = λ body b c_is. elim (parted (tests_by dig) rules events w c legal body b c_is) [
      | inl l ↦ inl l
      | inr k ↦ inr (back-more (tests_by dig) (log_of events) (seen events c) (seen (event ∷ events) c) body
          (seen-grow event events c) k)
    ];
  }
