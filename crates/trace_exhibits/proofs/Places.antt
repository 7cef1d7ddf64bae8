-- Places in a list that grows at its end.
use Rattle.std.proofs.Common.{◌≡◌, ℕ, zero, suc, ◌<◌, List, [], ◌∷◌, ◌++◌, length, Some, refl, arith}
use Rattle.std.specs.List.{slice_get}
use Rattle.std.proofs.lemmas.List.{length-append}

module _ {X : Type 0} where
  pub get-before : (xs ys : List X) (k : ℕ) → k < length xs → slice_get (xs ++ ys) k ≡ slice_get xs k
  get-before [] ys k less = absurd (omega (arith, less))
  get-before (x ∷ xs) ys zero less = refl
  get-before (x ∷ xs) ys (suc k) less = get-before xs ys k (omega (arith, less))

  pub get-last : (xs : List X) (y : X) → slice_get (xs ++ y ∷ []) (length xs) ≡ Some y
  get-last [] y = refl
  get-last (x ∷ xs) y = get-last xs y

  pub last-within : (xs : List X) (y : X) → length xs < length (xs ++ y ∷ [])
  last-within xs y = omega (arith, length-append xs (y ∷ []))
