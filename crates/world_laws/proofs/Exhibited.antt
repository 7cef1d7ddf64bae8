-- Where the events exhibit nothing, no coin's strings clash and no wallet's signature is forged.
use Rattle.world_laws.proofs.Basics.{◌≡◌, ◌≢◌, ◌⊎◌, ℕ, ◌+◌, ◌==◌, not, Bool, true, false, if◌then◌else◌, List, [], ◌∷◌, ◌++◌, length, Option, Some, None, inl, inr, refl, sym, ap, ◌∙◌, subst, find, arith, list_any, option_map, option_or, bytes_eq, cases_eq, ne_eqb, eqb-true, and_parts, or_cases, or_from, not-true, true≢false, false≢true, false_from_ne_true, bytes_eq-Decides, common_steps, none_some, any-none, any-some}
use Rattle.world_laws.proofs.CoinWords.{Owner, RawOpening, RootCall, openings_of_call, Has, has-left, has-right, has-cases}
use Rattle.world_laws.proofs.WorldWords.{Exhibit, Event, Declares, wallet_owner, wallets, bound_by, coin_of_call, openings_of, coin_of, seen, strings_of, strings_shown, all_strings, do_clash, has_clash, clash_with, first_clash, forges_one, shows_forgery, is_forged, forges_some, first_forgery, exhibit_of}
use Rattle.world_laws.proofs.HeldCoins.{clash-from}
use Rattle.world_laws.proofs.Before.{strings-append}

pub or-none : {X : Type 0} (o p : Option X) → option_or o p ≡ None → (o ≡ None) × (p ≡ None)
or-none None p is = (refl, is)
or-none (Some x) p is = absurd (none_some x (sym is))

-- ---- the openings of an event are of one coin

if-own : (k c : ℕ) (os : List RawOpening) → (c ≡ k) ⊎ ((if k == c then os else []) ≡ [])
if-own k c os = grind (arith, common_steps, cases_eq, ne_eqb)

call-own : (c : ℕ) (call : RootCall) → (c ≡ coin_of_call call) ⊎ (openings_of_call c call ≡ [])
call-own c call = grind (arith, common_steps, if-own)

event-own : (c : ℕ) (event : Event) → (c ≡ coin_of event) ⊎ (openings_of c event ≡ [])
unfolding openings_of coin_of
event-own c event = grind (arith, common_steps, call-own, if-own)

-- ---- clashes

module _ (dig : List ℕ → List ℕ) where
  nothing-of : (c : ℕ) (s : List ℕ) → Has (strings_of dig c []) s → ⊥
  unfolding strings_of
  nothing-of c s h = h

  -- the strings of one coin are among all
  event-strings : (c : ℕ) (event : Event) (s : List ℕ) → Has (strings_of dig c (openings_of c event)) s
      → Has (strings_shown dig event) s
  event-strings c event s h = grind (arith, common_steps, event-own, nothing-of)

  coin-strings : (events : List Event) (c : ℕ) (s : List ℕ) → Has (strings_of dig c (seen events c)) s
      → Has (all_strings dig events) s
  unfolding seen all_strings
  coin-strings [] c s h = nothing-of c s h
  coin-strings (event ∷ events) c s h =
      elim (has-cases (strings_of dig c (openings_of c event)) (strings_of dig c (seen events c)) s
      (subst (λ l. Has l s) (strings-append dig c (openings_of c event) (seen events c)) h)) [
        | inl here ↦ has-right (all_strings dig events) (strings_shown dig event) s (event-strings c event s here)
        | inr later ↦ has-left (all_strings dig events) (strings_shown dig event) s (coin-strings events c s later)
      ]

  -- where no string is behind one that it clashes with, no two clash
  abbrev NoneClash : List (List ℕ) → List (List ℕ) → Type 0
  NoneClash xs ys = (x y : List ℕ) → Has xs x → Has ys y → x ≢ y → dig x ≡ dig y → ⊥

  mapped-none : {X Y : Type 0} (f : X → Y) (o : Option X) → option_map f o ≡ None → o ≡ None
  mapped-none f None is = refl
  mapped-none f (Some x) is = absurd (none_some (f x) (sym is))

  find-none : (p : List ℕ → Bool) (xs : List (List ℕ)) (x : List ℕ) → find p xs ≡ None → Has xs x → p x ≡ false
  find-none p [] x none h = absurd h
  find-none p (y ∷ ys) x none h =
      (elim (p y) as (λ b. p y ≡ b → (if b then Some y else find p ys) ≡ None → p x ≡ false) [
        | true ↦ λ on wrong. absurd (none_some y (sym wrong))
        | false ↦ λ off rest. elim h [
          | inl same ↦ ap p (sym same) ∙ off
          | inr later ↦ find-none p ys x rest later
        ]
      ]) refl none

  push-has : (xs ys : List (List ℕ)) (s x : List ℕ) → Has (xs ++ s ∷ ys) x → Has ((xs ++ s ∷ []) ++ ys) x
  push-has xs ys s x h = grind (arith, common_steps, has-cases, has-left, has-right)

  first-none : (earlier ss : List (List ℕ)) → first_clash dig earlier ss ≡ None → NoneClash (earlier ++ ss) ss
  unfolding first_clash
  first-none earlier [] none x y hx hy differ same = hy
  first-none earlier (s ∷ ss) none x y hx hy differ same =
      let parts = or-none (clash_with dig earlier s) (first_clash dig (earlier ++ s ∷ []) ss) none in
      let rest = first-none (earlier ++ s ∷ []) ss parts.1 in
      elim hy [
        | inr later ↦ rest x y (push-has earlier ss s x hx) later differ same
        | inl is_y ↦ elim (has-cases earlier (s ∷ ss) x hx) [
          | inl before ↦ grind (arith, find-none, mapped-none, true≢false, clash-from)
          | inr behind ↦ elim behind [
            | inl is_x ↦ differ (sym is_x ∙ is_y)
            | inr later ↦ rest s x
                (has-left (earlier ++ s ∷ []) ss s (has-right earlier (s ∷ []) s (inl refl))) later
                (λ e. differ (sym e ∙ is_y)) (ap dig is_y ∙ sym same)
          ]
        ]
      ]

  record Clashing (ss : List (List ℕ)) : Type 0 where
    one : List ℕ
    other : List ℕ
    is_one : Has ss one
    is_other : Has ss other
    both : do_clash dig one other ≡ true

  clashing : (ss : List (List ℕ)) → has_clash dig ss ≡ true → Clashing ss
  unfolding has_clash
  clashing [] is = absurd (false≢true is)
  clashing (s ∷ ss) is =
      elim (or_cases (list_any (do_clash dig s) ss) (has_clash dig ss) is) [
        | inl here ↦
            let r = any-some (do_clash dig s) ss here in
            record { one = s; other = r.0; is_one = inl refl; is_other = inr r.1; both = r.2 }
        | inr later ↦ grind (arith, clashing ss later)
      ]

  pub no-clash : (events : List Event) (c : ℕ) → first_clash dig [] (all_strings dig events) ≡ None
      → has_clash dig (strings_of dig c (seen events c)) ≡ false
  no-clash events c none =
      false_from_ne_true _ (λ is.
      let k = clashing (strings_of dig c (seen events c)) is in
      let parts = and_parts (not (bytes_eq k.one k.other)) (bytes_eq (dig k.one) (dig k.other)) k.both in
      first-none [] (all_strings dig events) none k.one k.other (coin-strings events c k.one k.is_one)
      (coin-strings events c k.other k.is_other)
      (λ e. true≢false (sym ((bytes_eq-Decides k.one k.other).1 e) ∙ not-true _ parts.0))
      ((bytes_eq-Decides (dig k.one) (dig k.other)).0 parts.1))

-- ---- forgeries

wallet-listed : (events : List Event) (w : ℕ) (me : Owner) → wallet_owner events w ≡ Some me → Has (wallets events) w
unfolding wallet_owner wallets
wallet-listed [] w me is = absurd (none_some me is)
wallet-listed (Declares v other ∷ events) w me is =
    (elim (v == w) as (λ b. (v == w) ≡ b → (if b then Some other else wallet_owner events w) ≡ Some me
    → Has (v ∷ wallets events) w) [
      | true ↦ λ same here. inl (eqb-true v w same)
      | false ↦ λ apart later. inr (wallet-listed events w me later)
    ]) refl is
wallet-listed (event ∷ events) w me is = wallet-listed events w me is

forges-none : (tag : List ℕ) (o : Option Owner) (w c : ℕ) (events : List Event)
    → forges_one tag o (bound_by events w) c [] ≡ false
forges-none tag None w c events = refl
forges-none tag (Some me) w c events = refl

-- an event at which no wallet's signature is forged
event-unforged : (tag : List ℕ) (events : List Event) (event : Event) (w c : ℕ)
    → forges_some tag events event ≡ false → shows_forgery tag events w c (openings_of c event) ≡ false
event-unforged tag events event w c none = grind (arith, common_steps, event-own, forges-none, any-none, wallet-listed)

pub no-forgery : (tag : List ℕ) (events : List Event) (w c : ℕ) → first_forgery tag events ≡ None
    → is_forged tag events w c ≡ false
unfolding first_forgery is_forged
no-forgery tag [] w c none = refl
no-forgery tag (event ∷ events) w c none =
    let parts = or-none (first_forgery tag events)
    (if forges_some tag events event then Some (length events + 1) else None) none in
    or_from _ _ (event-unforged tag events event w c (off (forges_some tag events event) parts.1))
    (no-forgery tag events w c parts.0)
  where
    off : (b : Bool) → (if b then Some (length events + 1) else None) ≡ None → b ≡ false
    off true wrong = absurd (none_some (length events + 1) (sym wrong))
    off false is = refl

-- ---- the exhibit

pub nothing-exhibited : (dig : List ℕ → List ℕ) (tag : List ℕ) (events : List Event)
    → exhibit_of dig tag events ≡ Exhibit.Nothing
    → (first_clash dig [] (all_strings dig events) ≡ None) × (first_forgery tag events ≡ None)
unfolding exhibit_of
nothing-exhibited dig tag events is = grind (arith, common_steps)
