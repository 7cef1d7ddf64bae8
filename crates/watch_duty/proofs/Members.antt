-- Lists: what is in one, and what is found in it.
use Rattle.watch_duty.proofs.Words.{◌≡◌, ◌⊎◌, ℕ, zero, suc, ◌<◌, ◌≤◌, cond, ◌||◌, Bool, true, false, if◌then◌else◌, List, [], ◌∷◌, ◌++◌, length, get_or, map, filter, find, Some, None, inl, inr, refl, sym, ap, ◌∙◌, subst, arith, AllByRecursion, Contains, flat_map, list_any, or_left, or_right, true≢false, common_steps, one_if, count}

-- the list has the item
abbrev pub Has : {X : Type 0} → List X → X → Type 0
Has [] x = ⊥
Has (y ∷ ys) x = (y ≡ x) ⊎ Has ys x

module _ {X : Type 0} where
  pub has-contains : (xs : List X) (x : X) → Has xs x → Contains xs x
  has-contains [] x h = absurd h
  has-contains (y ∷ ys) x (inl is) = (zero, omega arith, is)
  has-contains (y ∷ ys) x (inr h) = let c = has-contains ys x h in (suc c.0, omega (arith, c.1), c.2)

  has-at : (xs : List X) (x : X) (k : ℕ) → k < length xs → get_or xs k x ≡ x → Has xs x
  has-at [] x k less is = absurd (omega arith)
  has-at (y ∷ ys) x zero less is = inl is
  has-at (y ∷ ys) x (suc k) less is = inr (has-at ys x k (omega arith) is)

  pub contains-has : (xs : List X) (x : X) → Contains xs x → Has xs x
  contains-has xs x c = has-at xs x c.0 c.1 c.2

  pub has-left : (xs ys : List X) (x : X) → Has xs x → Has (xs ++ ys) x
  has-left [] ys x h = absurd h
  has-left (z ∷ xs) ys x (inl is) = inl is
  has-left (z ∷ xs) ys x (inr h) = inr (has-left xs ys x h)

  pub has-right : (xs ys : List X) (x : X) → Has ys x → Has (xs ++ ys) x
  has-right [] ys x h = h
  has-right (z ∷ xs) ys x h = inr (has-right xs ys x h)

  pub has-cases : (xs ys : List X) (x : X) → Has (xs ++ ys) x → Has xs x ⊎ Has ys x
  has-cases [] ys x h = inr h
  has-cases (z ∷ xs) ys x (inl is) = inl (inl is)
  has-cases (z ∷ xs) ys x (inr h) = elim (has-cases xs ys x h) [ inl l ↦ inl (inr l) | inr r ↦ inr r ]

  pub all-has : (P : X → Type 0) (xs : List X) (x : X) → AllByRecursion P xs → Has xs x → P x
  all-has P [] x all h = absurd h
  all-has P (y ∷ ys) x all (inl is) = subst P is all.0
  all-has P (y ∷ ys) x all (inr h) = all-has P ys x all.1 h

  pub any-has : (p : X → Bool) (xs : List X) (x : X) → Has xs x → p x ≡ true → list_any p xs ≡ true
  any-has p [] x h is = absurd h
  any-has p (y ∷ ys) x (inl same) is = or_left (p y) (list_any p ys) (ap p same ∙ is)
  any-has p (y ∷ ys) x (inr h) is = or_right (p y) (list_any p ys) (any-has p ys x h is)

  -- what a filter keeps is in the list, and passes
  pub has-filter : (p : X → Bool) (xs : List X) (x : X) → Has (filter p xs) x → Has xs x × (p x ≡ true)
  has-filter p [] x h = absurd h
  has-filter p (y ∷ ys) x h =
      (elim (p y) as (λ b. p y ≡ b → Has (cond b (y ∷ filter p ys) (filter p ys)) x
      → Has (y ∷ ys) x × (p x ≡ true)) [
        | true ↦ λ passes there. elim there [
          | inl is ↦ (inl is, ap p (sym is) ∙ passes)
          | inr later ↦ let r = has-filter p ys x later in (inr r.0, r.1)
        ]
        | false ↦ λ other there. let r = has-filter p ys x there in (inr r.0, r.1)
      ]) refl h

  -- where at most one passes, one that passes is found
  counted : (p : X → Bool) (xs : List X) (x : X) → Has xs x → p x ≡ true → 1 ≤ count p xs
  unfolding count
  counted p [] x h is = absurd h
  counted p (y ∷ ys) x (inl same) is = let e : one_if (p y) ≡ 1 = ap one_if (ap p same ∙ is) in omega arith
  counted p (y ∷ ys) x (inr h) is = omega (arith, counted p ys x h is)

  pub only-found : (p : X → Bool) (xs : List X) (x : X) → count p xs ≤ 1 → Has xs x → p x ≡ true
      → find p xs ≡ Some x
  unfolding count
  only-found p [] x one h is = absurd h
  only-found p (y ∷ ys) x one (inl same) is =
      ap (λ (b : Bool). if b then Some y else find p ys) (ap p same ∙ is) ∙ ap Some same
  only-found p (y ∷ ys) x one (inr h) is =
      grind (arith, common_steps, only-found p ys x (omega arith) h is, one_if, count, counted) steps 20000

  -- and none is found where none passes
  pub none-found : (p : X → Bool) (xs : List X) → list_any p xs ≡ false → find p xs ≡ None
  none-found p [] none = refl
  none-found p (y ∷ ys) none =
      (elim (p y) as (λ b. (b || list_any p ys) ≡ false
      → (if b then Some y else find p ys) ≡ None) [
        | true ↦ λ wrong. absurd (true≢false wrong)
        | false ↦ λ rest. none-found p ys rest
      ]) none

module _ {X Y : Type 0} where
  pub has-map : (f : X → Y) (xs : List X) (y : Y) → Has (map f xs) y → (x : X) × Has xs x × (f x ≡ y)
  has-map f [] y h = absurd h
  has-map f (x ∷ xs) y (inl is) = (x, inl refl, is)
  has-map f (x ∷ xs) y (inr h) = let r = has-map f xs y h in (r.0, inr r.1, r.2)

  pub has-flat_map : (f : X → List Y) (xs : List X) (y : Y) → Has (flat_map f xs) y → (x : X) × Has xs x × Has (f x) y
  has-flat_map f [] y h = absurd h
  has-flat_map f (x ∷ xs) y h = elim (has-cases (f x) (flat_map f xs) y h) [
    | inl here ↦ (x, inl refl, here)
    | inr later ↦ let r = has-flat_map f xs y later in (r.0, inr r.1, r.2)
  ]

  -- a test of what f gives
  pub any-map : (f : X → Y) (p : Y → Bool) (xs : List X) → list_any p (map f xs) ≡ list_any (λ x. p (f x)) xs
  any-map f p [] = refl
  any-map f p (x ∷ xs) = ap (λ b. p (f x) || b) (any-map f p xs)
