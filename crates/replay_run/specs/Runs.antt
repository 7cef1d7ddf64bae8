-- What a run does to its source and its sink that reads a schedule.
use Rattle.std.specs.Prelude.{ℕ, Bool, List, Option}
use Rattle.streamed_lines.specs.Outside.{Gave}
use Rattle.run_endings.specs.{declared.status.Status.{Status}, Outputs.{Output, EndsAs}}

-- A run took some bytes of the source, and not more than it needed; what it wrote and its status are the output over
-- these bytes.
pub record RanOver
    (output : List ℕ → Bool → Output)
    (Few : Status → List ℕ → Bool → Type 0)
    (left_before left_after taken_before taken_after : Option (List ℕ))
    (failed : Type 0)
    (status : Status)
    : Type 0 where
  pub bytes : List ℕ
  pub ended : Bool
  pub gave : Gave left_before left_after bytes ended
  pub ends : EndsAs (output bytes ended) status taken_before taken_after failed
  pub few : Few status bytes ended
