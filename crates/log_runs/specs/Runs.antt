-- What a run over a log does to its source and its sink, and how it ends.
use Rattle.std.specs.Prelude.{ℕ, Bool, List, Option, Result, Ok, Err}
use Rattle.plasma_outside.specs.declared.sink.SinkRefusal.{SinkRefusal}
use Rattle.streamed_lines.specs.declared.ending.Ending.{Ending}
use Rattle.streamed_lines.specs.Streams.{Streamed, stream_of}
use Rattle.streamed_lines.specs.Bounds.{TakesFew}
use Rattle.streamed_lines.specs.Outside.{Gave}
use Rattle.run_endings.specs.declared.status.Status.{Status}
use Rattle.run_endings.specs.declared.status.Status.TheVariants.{Refused, BadLine as BadLineStatus, TooLong as TooLongStatus}
use Rattle.run_endings.specs.Statuses.{status_of_refusal}
use Rattle.run_endings.specs.Outputs.{EndsAs}
use Rattle.run_endings.specs.Endings.{status_of, session_output}
use Rattle.log_runs.specs.Following.{Following, LogRun, begun, log_rules}

-- a line that ended a run was answered before more was taken
abbrev pub TakesFewBy : Status → List ℕ → Ending (List ℕ) → Type 0
TakesFewBy BadLineStatus bytes ending = TakesFew bytes ending
TakesFewBy TooLongStatus bytes ending = TakesFew bytes ending
TakesFewBy Refused bytes ending = TakesFew bytes ending
TakesFewBy status bytes ending = Unit {0}

-- The lines of an input by what follows the log: those that are answered, and what ends them.
abbrev pub lines_of : {A : Type 0} → Following A → List ℕ → Bool → Streamed (LogRun A) (List ℕ)
lines_of following bytes ended = stream_of (log_rules following) begun bytes ended

-- A run took some bytes of the source, and fewer than a room behind a line that ended it; what it wrote and its status
-- are the output over these bytes. `failed` says that its reading failed.
pub record RunsLog {A : Type 0} (following : Following A) (left later taken after : Option (List ℕ)) (failed : Type 0)
    (status : Status) : Type 0 where
  pub bytes : List ℕ
  pub ended : Bool
  pub gave : Gave left later bytes ended
  pub ends : EndsAs (session_output (lines_of following bytes ended)) status taken after failed
  pub few : TakesFewBy status bytes (lines_of following bytes ended).ending

-- the status of a run whose lines were answered up to this, or that was stopped
abbrev pub status_of_run : Result (Ending (List ℕ)) SinkRefusal → Status
status_of_run (Ok ending) = status_of ending
status_of_run (Err refusal) = status_of_refusal refusal
