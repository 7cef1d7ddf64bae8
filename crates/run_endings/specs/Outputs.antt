-- What a run writes, and how it ends.
use Rattle.std.specs.Prelude.{◌≡◌, ◌⊎◌, ℕ, List, ◌++◌, Option}
use Rattle.streamed_lines.specs.Outside.{Wrote, WroteFront}
use Rattle.run_endings.specs.declared.status.Status.{Status}
use Rattle.run_endings.specs.declared.status.Status.TheVariants.{Done, Refused, Usage, BadLine, ReadFault, WriteFault, DeviceFault, NoMemory, TooLong, NotJournal, AlreadyMade}

-- the status of a run, the answers that it writes, and what stands behind them
pub record Output : Type 0 where
  pub status : Status
  pub answers : List ℕ
  pub last : List ℕ

-- A run that was stopped by the sink or for want of memory wrote a beginning of its text. Where that text says that
-- the input failed, the reading did, or a beginning of the answers alone was written.
pub record Stops (output : Output) (before after : Option (List ℕ)) (failed : Type 0) : Type 0 where
  pub front : WroteFront before after (output.answers ++ output.last)
  pub fault : output.status ≡ ReadFault → failed ⊎ WroteFront before after output.answers

-- a run that wasn't stopped has the status of the output, and wrote its text, all of it
abbrev pub EndsWhole : Output → Status → Option (List ℕ) → Option (List ℕ) → Type 0
EndsWhole output status before after = (output.status ≡ status) × Wrote before after (output.answers ++ output.last)

-- what a run with this status did; `failed` says that its reading failed
abbrev pub EndsAs : Output → Status → Option (List ℕ) → Option (List ℕ) → Type 0 → Type 0
EndsAs output WriteFault before after failed = Stops output before after failed
EndsAs output NoMemory before after failed = Stops output before after failed
EndsAs output ReadFault before after failed = EndsWhole output ReadFault before after × failed
EndsAs output Done before after failed = EndsWhole output Done before after
EndsAs output Refused before after failed = EndsWhole output Refused before after
EndsAs output Usage before after failed = EndsWhole output Usage before after
EndsAs output BadLine before after failed = EndsWhole output BadLine before after
EndsAs output DeviceFault before after failed = EndsWhole output DeviceFault before after
EndsAs output TooLong before after failed = EndsWhole output TooLong before after
EndsAs output NotJournal before after failed = EndsWhole output NotJournal before after
EndsAs output AlreadyMade before after failed = EndsWhole output AlreadyMade before after
