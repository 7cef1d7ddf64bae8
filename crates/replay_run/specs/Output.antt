-- What a run writes and how it ends that uses no disk, as a function of its words and of the bytes that were read.
use Rattle.std.specs.Prelude.{ℕ, Bool, if◌then◌else◌, List, [], ◌∷◌, ◌++◌, codes, Result, Ok, Err}
use Rattle.run_endings.specs.{declared.status.Status.{Status}, declared.status.Status.TheVariants.{Done, Usage, BadLine as BadLineStatus, ReadFault as ReadFaultStatus, TooLong as TooLongStatus}, Statuses.{status_of_refusal}}
use Rattle.run_endings.specs.Outputs.{Output}
use Rattle.plasma_outside.specs.declared.sink.SinkRefusal.{SinkRefusal}
use Rattle.streamed_lines.specs.{declared.ending.Ending.{Ending}, declared.ending.Ending.TheVariants.{Complete, BadLine, ReadFault, TooLong, Ended}}
use Rattle.world_maker.specs.Generator.{made_text}
use Rattle.replay_run.specs.{declared.ending.NoCause.{NoCause}, Replays.{replay_of}, Text.{answers_text, closing_text, brief_text, last_text}}

-- words that are no form: the line that names the forms
abbrev pub usage_output : Output
usage_output = record {
  status = Usage;
  answers = [];
  last = codes "usage: plasma replay | brief | wallet | operator | watcher | init | make | verify | hss | audit | archive" ++ 10 ∷ [];
}

-- the status of what ended a replay
abbrev pub status_of : Ending NoCause → Status
status_of Complete = Done
status_of (BadLine n) = BadLineStatus
status_of ReadFault = ReadFaultStatus
status_of (TooLong n) = TooLongStatus
status_of (Ended n cause) = elim cause [ ]

-- `replay` under a digest: the answers of the lines of the input that are run, and the status and the lines of what
-- ended it
abbrev pub replay_output : (List ℕ → List ℕ) → List ℕ → Bool → Output
replay_output dig bytes ended =
    let replay = replay_of dig bytes ended in record {
      status = status_of replay.ending;
      answers = answers_text replay;
      last = last_text (closing_text dig replay.run) replay.ending;
    }

-- `brief` under a digest: no answers, and what is counted of the lines that are run
abbrev pub brief_output : (List ℕ → List ℕ) → List ℕ → Bool → Output
brief_output dig bytes ended =
    let replay = replay_of dig bytes ended in record {
      status = status_of replay.ending;
      answers = [];
      last = last_text (brief_text dig replay.run) replay.ending;
    }

-- `make`: the schedule of the seed with so many rounds
abbrev pub make_output : ℕ → ℕ → Output
make_output seed count = record { status = Done; answers = []; last = made_text seed count }

-- `verify`: one word
abbrev pub verify_output : Bool → Output
verify_output verified = record {
  status = Done;
  answers = [];
  last = (if verified then codes "valid" else codes "invalid") ++ 10 ∷ [];
}

-- the status of a replay
abbrev pub status_of_replay : Result (Ending NoCause) SinkRefusal → Status
status_of_replay (Ok ending) = status_of ending
status_of_replay (Err refusal) = status_of_refusal refusal
