-- Induction over the lines of any run, and lists of nodes.
use Rattle.world_rules.proofs.Basics.{◌≡◌, ◌≢◌, ℕ, zero, suc, List, [], ◌∷◌, ◌++◌, length, Some, refl, ap, ◌∙◌, set, slice_get, option_map}
use Rattle.world_rules.proofs.WorldWords.{Line, World, LineEffect, step, TraceEntry, entry_of, Run, run_of}
use Rattle.world_rules.proofs.Lines.{steps_are_of_acts}
use Rattle.world_rules.proofs.Lives.{begun, line_effect, IsAny, any_run, runs_keep}

-- ---- lists

pub set-same : {A : Type 0} (xs : List A) (n : ℕ) (x y : A) → slice_get xs n ≡ Some x
    → slice_get (set xs n y) n ≡ Some y
set-same [] n x y is = absurd (cc is)
set-same (z ∷ zs) zero x y is = refl
set-same (z ∷ zs) (suc n) x y is = set-same zs n x y is

pub set-other : {A : Type 0} (xs : List A) (n m : ℕ) (y : A) → n ≢ m → slice_get (set xs n y) m ≡ slice_get xs m
set-other [] n m y other = refl
set-other (z ∷ zs) zero zero y other = absurd (other refl)
set-other (z ∷ zs) zero (suc m) y other = refl
set-other (z ∷ zs) (suc n) zero y other = refl
set-other (z ∷ zs) (suc n) (suc m) y other = set-other zs n m y (λ same. other (ap suc same))

pub push-same : {A : Type 0} (xs : List A) (y : A) → slice_get (xs ++ y ∷ []) (length xs) ≡ Some y
push-same [] y = refl
push-same (z ∷ zs) y = push-same zs y

pub push-other : {A : Type 0} (xs : List A) (y : A) (m : ℕ) → length xs ≢ m
    → slice_get (xs ++ y ∷ []) m ≡ slice_get xs m
push-other [] y zero other = absurd (other refl)
push-other [] y (suc m) other = refl
push-other (z ∷ zs) y zero other = refl
push-other (z ∷ zs) y (suc m) other = push-other zs y m (λ same. other (ap suc same))

-- ---- runs

-- by steps
module _ (dig : List ℕ → List ℕ) (P : List TraceEntry → World → Type 0)
    (first : (tag operator most : ℕ)
    → P (entry_of (Line.Chain tag operator most) (begun tag operator most) ∷ []) (begun tag operator most).world)
    (next : (entries : List TraceEntry) (world : World) (line : Line) (effect : LineEffect) → P entries world
    → step dig (Some world) line ≡ Some effect → P (entry_of line effect ∷ entries) effect.world) where
  pub over_run : (lines : List Line) (run : Run) (world : World) → run_of dig lines ≡ Some run
      → run.world ≡ Some world → P run.entries world
  over_run lines run world run_is world_is =
      runs_keep dig IsAny P first
      (λ before so_far there line act come good act_is known holds.
      next so_far.entries there line (line_effect dig there act) holds
      (steps_are_of_acts dig there line ∙ ap (option_map (line_effect dig there)) act_is))
      lines run world (any_run dig lines run world run_is world_is)
