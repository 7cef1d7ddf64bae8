-- Good inputs are answered to their end: schedules whose lines keep the rules, logs with commands that a node does or
-- with lines that an audit or an archive answers, and messages that a signer signs.
use Rattle.std.specs.Prelude.{◌≡◌, ℕ, true, false, List, [], ◌++◌, length, Option, Some, None}
use Rattle.crash_disk.specs.Disk.{History}
use Rattle.run_words.specs.{declared.form.Form.{Form}, declared.form.Form.TheVariants.{Replay, Brief, Wallet, Operator, Watcher, InitWallet, InitOperator, InitWatcher, Make, Verify, HssInit, HssSign, HssVerify, Audit, Archive}}
use Rattle.streamed_lines.specs.{declared.ending.Ending.TheVariants.{Complete, ReadFault}, Lines.{lines_in}}
use Rattle.run_endings.specs.{declared.status.Status.{Status}, Statuses.{IsDoneUnlessFailed}}
use Rattle.node_runs.specs.Complete.{WatcherComplete, OperatorComplete, WalletComplete, InitComplete, InitBothComplete}
use Rattle.hss_runs.specs.Complete.{SigningComplete}
use Rattle.log_runs.specs.{Auditing.{auditing}, Archiving.{archiving}, Complete.{LogComplete}}
use Rattle.replay_run.specs.{Replays.{replay_of}, Output.{replay_output, brief_output}, Endings.{KeepTheRules}, Headline.{run_text, run_brief}}

-- ---- the text of a replay

-- A whole schedule whose lines keep the rules is answered to its end: `replay` writes an answer to each of its lines,
-- and the verdicts and the exhibit of their run; `brief` what is counted of it; both with the status Done.
abbrev pub GoodSchedulesAreAnswered : Type 0
GoodSchedulesAreAnswered = (dig : List ℕ → List ℕ) (bytes : List ℕ) → KeepTheRules dig [] 1 0 (lines_in bytes)
    → let run = (replay_of dig bytes true).run in
    (length run.entries ≡ length (lines_in bytes))
    × (replay_output dig bytes true ≡ run_text dig run Complete)
    × (brief_output dig bytes true ≡ run_brief dig run Complete)

-- A beginning of one, behind which no more was read, ends as a read fault, and for no line of it: none is bad, and none
-- passes a limit, wherever it is cut.
abbrev pub PartsOfGoodSchedulesWait : Type 0
PartsOfGoodSchedulesWait = (dig : List ℕ → List ℕ) (front rest : List ℕ)
    → KeepTheRules dig [] 1 0 (lines_in (front ++ rest))
    → let run = (replay_of dig front false).run in
    (replay_output dig front false ≡ run_text dig run ReadFault)
    × (brief_output dig front false ≡ run_brief dig run ReadFault)

-- ---- a run

-- Over disks that tell their history, and under a digest: a run that was handed these disks of notes and of leaves,
-- whose source had this left, and that has this status.
module _ {D : Type 0} (told : D → Option History) (dig : List ℕ → List ℕ) (notes leaves : D)
    (left : Option (List ℕ)) (status : Status) where
  -- the source tells a schedule whose lines keep the rules: the run is done, unless something fails
  abbrev pub ScheduleComplete : Type 0
  ScheduleComplete = (input : List ℕ) → left ≡ Some input → KeepTheRules dig [] 1 0 (lines_in input)
      → IsDoneUnlessFailed status

  -- So it is of a replay and a node's session, of what begins a node or a signer, of a signing, and of an audit and an
  -- archive; and a form that needs nothing but its words is done.
  abbrev pub CompletesByForm : Option Form → Type 0
  CompletesByForm (Some Replay) = ScheduleComplete
  CompletesByForm (Some Brief) = ScheduleComplete
  CompletesByForm (Some Wallet) = WalletComplete told dig left status notes leaves
  CompletesByForm (Some Operator) = OperatorComplete told dig left status notes leaves
  CompletesByForm (Some Watcher) = WatcherComplete told dig left status notes
  CompletesByForm (Some (InitWallet tag account seed types)) = InitBothComplete told dig left status notes leaves
  CompletesByForm (Some (InitOperator tag account None)) = InitComplete told dig left status notes
  CompletesByForm (Some (InitOperator tag account (Some seed))) =
      InitBothComplete told dig left status notes leaves
  CompletesByForm (Some (InitWatcher tag account)) = InitComplete told dig left status notes
  CompletesByForm (Some (Make seed count)) = IsDoneUnlessFailed status
  CompletesByForm (Some (Verify key message signature)) = IsDoneUnlessFailed status
  CompletesByForm (Some (HssInit seed)) = InitBothComplete told dig left status notes leaves
  CompletesByForm (Some (HssSign message)) = SigningComplete told status message notes leaves
  CompletesByForm (Some (HssVerify key message signature)) = IsDoneUnlessFailed status
  CompletesByForm (Some (Audit key receipt)) = LogComplete (auditing dig key receipt) left status
  CompletesByForm (Some Archive) = LogComplete (archiving dig) left status
  CompletesByForm None = Unit {0}
