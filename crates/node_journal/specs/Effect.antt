-- What a command of a node does by its definition.
use Rattle.std.specs.Prelude.{ℕ, Bool, if◌then◌else◌, List, [], ◌∷◌, Option, Some, None, Result, Err}

-- its answer, and the record that it adds, or none
pub record Effect (A : Type 0) : Type 0 where
  pub answer : A
  pub note : Option (List ℕ)

-- the command answers so and adds no record
abbrev pub only : {A : Type 0} → A → Effect A
only answer = record { answer = answer; note = None }

-- the first cause that holds
abbrev pub first_cause : {E : Type 0} → List (Bool × E) → Option E
first_cause [] = None
first_cause (cause ∷ causes) = if cause.0 then Some cause.1 else first_cause causes

-- the command is refused for the first cause that holds, else it does this
abbrev pub unless : {A E : Type 0} → Option E → Effect (Result A E) → Effect (Result A E)
unless None effect = effect
unless (Some why) effect = only (Err why)
