-- The least of some numbers, as loops find it.
use Rattle.coin_safety.proofs.Words.{◌≡◌, ℕ, min, List, [], ◌∷◌, ◌++◌, length, map, Option, Some, None, refl, sym, ap, ◌∙◌, arith, option_map_or, option_to_list, least}

-- the less of two, where there are two
abbrev pub joined : Option ℕ → Option ℕ → Option ℕ
joined None other = other
joined (Some first) other = Some (option_map_or (min first) other first)

front : (n : ℕ) (one other : Option ℕ)
    → Some (option_map_or (min n) (joined one other) n) ≡ joined (Some (option_map_or (min n) one n)) other
front n None other = refl
front n (Some first) None = refl
front n (Some first) (Some second) =
    let e : min n (min first second) ≡ min (min n first) second = omega arith in
    ap (λ (k : ℕ). Some k) e

pub least-append : (xs ys : List ℕ) → least (xs ++ ys) ≡ joined (least xs) (least ys)
unfolding least
least-append [] ys = refl
least-append (x ∷ xs) ys =
    ap (λ o. Some (option_map_or (min x) o x)) (least-append xs ys) ∙ front x (least xs) (least ys)

least-one : (o : Option ℕ) → least (option_to_list o) ≡ o
unfolding least
least-one None = refl
least-one (Some n) = refl

-- the first of those that a number stands for, and of more
pub least-from : (o : Option ℕ) (xs : List ℕ) → least (option_to_list o ++ xs) ≡ joined o (least xs)
least-from o xs =
    least-append (option_to_list o) xs ∙ ap (λ first. joined first (least xs)) (least-one o)

pub least-join : (xs ys : List ℕ) → least (option_to_list (least xs) ++ ys) ≡ least (xs ++ ys)
least-join xs ys = least-from (least xs) ys ∙ sym (least-append xs ys)

joined-one : (o : Option ℕ) (n : ℕ) → joined o (Some n) ≡ Some (option_map_or (min n) o n)
joined-one None n = refl
joined-one (Some first) n =
    let e : min first n ≡ min n first = omega arith in
    ap (λ (k : ℕ). Some k) e

-- one more number
pub least-push : (xs : List ℕ) (n : ℕ) → least (xs ++ n ∷ []) ≡ Some (option_map_or (min n) (least xs) n)
unfolding least
least-push xs n = least-append xs (n ∷ []) ∙ joined-one (least xs) n

-- no more
pub least-same : (o : Option ℕ) → o ≡ least (option_to_list o ++ [])
unfolding least
least-same None = refl
least-same (Some n) = refl

-- one more than those that a number stands for
pub least-next : (o : Option ℕ) (n : ℕ) → Some (option_map_or (min n) o n) ≡ least (option_to_list o ++ n ∷ [])
unfolding least
least-next o n = sym (least-from o (n ∷ []) ∙ joined-one o n)

-- of nothing there is none
pub least-empty : {X : Type 0} (f : X → ℕ) (xs : List X) → length xs ≡ 0 → None ≡ least (map f xs)
unfolding least
least-empty f [] none = refl
least-empty f (x ∷ xs) none = absurd (omega arith)
