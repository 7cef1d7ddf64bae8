-- Tests over lists.
use Rattle.std.proofs.Common.{◌≡◌, inl, inr, ℕ, ◌==◌, ◌&&◌, ◌||◌, not, Bool, true, false, List, [], ◌∷◌, map, filter, refl, ap, ◌∙◌, arith}
use Rattle.std.specs.List.{list_any}
use Rattle.std.proofs.lemmas.Bool.{false≢true, eqb-true, or_left, or_right, or_cases}
use Rattle.std.proofs.lemmas.Grind.{common_steps}
use Rattle.coin_verdicts.specs.Facts.{has}

-- two tests that imply each other are one
pub same_truth : (a b : Bool) → (a ≡ true → b ≡ true) → (b ≡ true → a ≡ true) → a ≡ b
same_truth a b to back = grind (arith, common_steps) steps 20000

pub or-false : (a : Bool) → (a || false) ≡ a
or-false true = refl
or-false false = refl

pub or-comm : (a b : Bool) → (a || b) ≡ (b || a)
or-comm a b = grind (arith, common_steps) steps 20000

pub eqb-comm : (m n : ℕ) → (m == n) ≡ (n == m)
eqb-comm m n = grind arith

-- a filter drops all that pass, or none of them
pub any-dropped : {X : Type 0} (p q : X → Bool) (b : Bool) (xs : List X) → ((x : X) → p x ≡ true → q x ≡ b)
    → list_any p (filter (λ x. not (q x)) xs) ≡ (not b && list_any p xs)
any-dropped p q true [] all = refl
any-dropped p q false [] all = refl
any-dropped p q b (x ∷ xs) all = grind (arith, common_steps, any-dropped p q b xs all, false≢true) steps 20000

-- a test of what is made of those that pass
pub any-made : {X : Type 0} (p : ℕ → Bool) (f : X → ℕ) (t : X → Bool) (xs : List X)
    → list_any p (map f (filter t xs)) ≡ list_any (λ x. t x && p (f x)) xs
any-made p f t [] = refl
any-made p f t (x ∷ xs) = grind (arith, common_steps, any-made p f t xs) steps 20000

-- one that is among the numbers and passes
pub any-at : (p : ℕ → Bool) (n : ℕ) (xs : List ℕ) → has xs n ≡ true → p n ≡ true → list_any p xs ≡ true
any-at p n [] among passes = absurd (false≢true among)
any-at p n (x ∷ xs) among passes = elim (or_cases (x == n) (has xs n) among) [
  | inl here ↦ or_left (p x) (list_any p xs) (ap p (eqb-true x n here) ∙ passes)
  | inr later ↦ or_right (p x) (list_any p xs) (any-at p n xs later passes)
]
