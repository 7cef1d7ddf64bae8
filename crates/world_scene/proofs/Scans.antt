-- A list is gone through from its front, up to the first element that passes.
use Rattle.world_scene.proofs.Words.{◌≡◌, refl, sym, ap, ◌∙◌, suc, ℕ, ◌+◌, ◌<◌, Bool, true, false, ◌||◌, cond, nat_lt, List, [], ◌∷◌, ◌++◌, take, length, get_or, find, Option, Some, None, arith, option_map, is_some, slice_get, position, position_or_len, list_any, take_more, find_at, list_any-append, position-parts, position-is}

-- the first place, by whether a first element passes, and by that behind it
abbrev first_by : Bool → Option ℕ → Option ℕ
first_by true rest = Some 0
first_by false rest = option_map suc rest

step_any : (b : Bool) (rest : Option ℕ) (any : Bool) → is_some rest ≡ any → is_some (first_by b rest) ≡ (b || any)
step_any true rest any is = refl
step_any false None any is = is
step_any false (Some m) any is = is

module _ {X : Type 0} (p : X → Bool) where
  tested : (m n : ℕ) → cond (nat_lt (1 + m) (1 + n)) (Some (1 + m)) None
      ≡ option_map suc (cond (nat_lt m n) (Some m) None)
  tested m n = grind arith

  position_cons : (x : X) (xs : List X) → position p (x ∷ xs) ≡ first_by (p x) (position p xs)
  position_cons x xs = by (p x) refl
    where
      by : (b : Bool) → p x ≡ b → position p (x ∷ xs) ≡ first_by (p x) (position p xs)
      by true is = grind (arith, is)
      by false is = grind (arith, is, tested (position_or_len p xs) (length xs))

  -- none of so many passes, nor the next one
  pub none_more : (xs : List X) (i : ℕ) (x : X) → i < length xs → x ≡ get_or xs i x
      → false ≡ list_any p (take i xs) → false ≡ p x → false ≡ list_any p (take (i + 1) xs)
  none_more xs i x within is none fails =
      sym (ap (list_any p) (take_more xs i x within ∙ ap (λ y. take i xs ++ y ∷ []) (sym is))
      ∙ list_any-append p (take i xs) (x ∷ [])
      ∙ ap (λ b. b || (p x || false)) (sym none) ∙ ap (λ b. b || false) (sym fails))

  -- some element passes where there is a first one
  pub any_at : (xs : List X) → is_some (position p xs) ≡ list_any p xs
  any_at [] = refl
  any_at (x ∷ xs) =
      ap is_some (position_cons x xs) ∙ step_any (p x) (position p xs) (list_any p xs) (any_at xs)

  -- what stands at the first place is what is found
  pub found_at_place : (xs : List X) (i : ℕ) → position p xs ≡ Some i → find p xs ≡ slice_get xs i
  found_at_place xs i is = find_at p xs ∙ ap (slice_get xs) (position-parts p xs i is).0

  pub none_is_found : (xs : List X) → position p xs ≡ None → find p xs ≡ None
  none_is_found [] none = refl
  none_is_found (x ∷ xs) none =
      by (p x) (position p xs) refl (none_is_found xs) (sym (position_cons x xs) ∙ none)
    where
      by : (b : Bool) (rest : Option ℕ) → p x ≡ b → (rest ≡ None → find p xs ≡ None)
          → first_by b rest ≡ None → find p (x ∷ xs) ≡ None
      by true rest is go it = absurd (cc it)
      by false None is go it = grind (arith, is, go refl)
      by false (Some m) is go it = absurd (cc it)

  -- some element is found where there is a first one
  pub found_where_placed : (xs : List X) → is_some (find p xs) ≡ is_some (position p xs)
  found_where_placed xs = by (position p xs) refl
    where
      by : (place : Option ℕ) → position p xs ≡ place → is_some (find p xs) ≡ is_some place
      by None is = ap is_some (none_is_found xs is)
      by (Some i) is = ap is_some (found_at_place xs i is ∙ (position-is p xs i is).1)
