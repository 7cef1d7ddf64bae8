-- What stands over std's readers and writers: the reader or the writer, and what is counted of it.
use Rattle.std.specs.Prelude.{ℕ, Bool, List, take, Option, Result, MatchResult}
use Rattle.std.specs.Io.KnownBytes.{Appends}

-- an input: its reader, how often that failed, how often it gave its end, whether its last read failed, and how many
-- bytes that gave
pub record StdInput (R : Type 0) : Type 0 where
  pub reader : R
  pub faults : ℕ
  pub ends : ℕ
  pub failed_last : Bool
  pub given_last : ℕ

-- an output: its writer, and how often that failed
pub record StdOutput (W : Type 0) : Type 0 where
  pub writer : W
  pub faults : ℕ

-- what is known of a writer's content grew by these bytes, or at an error by a beginning of them
abbrev pub Writes : {T E : Type 0} → Option (List ℕ) → Option (List ℕ) → Result T E → List ℕ → Type 0
Writes before after result bytes =
    MatchResult result (λ done. Appends before after bytes) (λ e. (n : ℕ) × Appends before after (take n bytes))
