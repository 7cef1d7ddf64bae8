-- Where a run over a log lacks memory whose sink takes none.
use Rattle.std.specs.Prelude.{◌≡◌, ◌⊎◌, ℕ, Bool, true, List, ◌++◌, Option}
use Rattle.streamed_lines.specs.Streams.{Stream}
use Rattle.streamed_lines.specs.Outside.{Gave}
use Rattle.streamed_lines.specs.Reading.{RunsTo, next_text, MayBeAnswered, IsKeptNext}
use Rattle.run_endings.specs.Endings.{is_composed}
use Rattle.log_runs.specs.Following.{Following, LogRun, begun, log_rules}
use Rattle.log_runs.specs.Kept.{MayTakeMemory}
use Rattle.log_runs.specs.Runs.{lines_of}

module _ {A : Type 0} (following : Following A) (Behind : A → List ℕ → Type 0) where
  -- Some lines of these bytes were answered. The next one is kept, or it may be answered and may take memory.
  pub record LacksAtLine (given : ℕ) (ended : Bool) (bytes : List ℕ) : Type 0 where
    pub front : List ℕ
    pub rest : List ℕ
    pub stream : Stream (LogRun A)
    pub whole : bytes ≡ front ++ rest
    pub runs : RunsTo (log_rules following) begun front stream
    pub lacks :
        IsKeptNext given bytes stream
        ⊎ (MayBeAnswered ended bytes stream
        × MayTakeMemory Behind stream.run.at stream.run.is_over (next_text bytes stream))

  -- The source gave some bytes, so many in the last take: memory was lacking at a line of these, or for the text that
  -- says what ended the run.
  pub record LacksMemory (given : ℕ) (left later : Option (List ℕ)) : Type 0 where
    pub bytes : List ℕ
    pub ended : Bool
    pub gave : Gave left later bytes ended
    pub there :
        LacksAtLine given ended bytes ⊎ (is_composed (lines_of following bytes ended).ending ≡ true)
