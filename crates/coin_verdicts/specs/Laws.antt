-- What holds of every run.
use Rattle.std.specs.Prelude.{◌≡◌, ℕ, List, Some}
use Rattle.schedule_text.specs.declared.line.Line.{Line}
use Rattle.world_rules.specs.{World.{World}, Steps.{Run, run_of, events_of}}
use Rattle.coin_verdicts.specs.Facts.{OwnersStay}

-- a wallet that was declared keeps its owner, along the events of a run
abbrev pub OwnersStayInRuns : Type 0
OwnersStayInRuns = (dig : List ℕ → List ℕ) (lines : List Line) (run : Run) (world : World)
    → run_of dig lines ≡ Some run → run.world ≡ Some world → OwnersStay (events_of run.entries)
