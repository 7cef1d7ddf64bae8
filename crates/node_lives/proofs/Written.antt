-- What a run wrote is a beginning of its answers and of what it says of its end.
use Rattle.std.proofs.Common.{◌≡◌, ◌⊎◌, ◌++◌, ℕ, List, [], Option, Some, None, refl, sym, subst, inl, inr}
use Rattle.std.proofs.lemmas.List.{append-nil}
use Rattle.crash_disk.specs.Disk.{History, FaultPlan}
use Rattle.node_journal.specs.Notes.{NotesState}
use Rattle.plasma_tx.specs.declared.call.RootCall.{RootCall}
use Rattle.streamed_lines.specs.Streams.{Rules, stream_of}
use Rattle.streamed_lines.specs.Outside.{Wrote, WroteFront}
use Rattle.run_endings.specs.declared.status.Status.{Status}
use Rattle.run_endings.specs.declared.status.Status.TheVariants.{Done, Refused, Usage, BadLine, ReadFault, WriteFault, DeviceFault, NoMemory, TooLong, NotJournal, AlreadyMade}
use Rattle.run_endings.specs.Outputs.{Output, EndsAs}
use Rattle.operator_rules.specs.Records.{who_is}
use Rattle.node_replies.specs.Roles.{Role, Wallet, Watcher, Operator}
use Rattle.node_sessions.specs.Sessions.{SessionState, begun}
use Rattle.streamed_lines.specs.declared.ending.Ending.TheVariants.{Complete}
use Rattle.run_endings.specs.Endings.{last_text, session_output, fault_output}
use Rattle.node_runs.specs.Sessions.{Outside, RunsSession}
use Rattle.node_runs.specs.Runs.{RunsWatcher, RunsWallet}
use Rattle.node_runs.specs.Operators.{RunsBehind, RunsOperator}
use Rattle.node_lives.specs.Disks.{Pair}
use Rattle.node_lives.specs.Calls.{Asked, ToBegin, ToRun, ToSign, ToUseNoDisk, RunsAs, DoesAsked, Starves}
use Rattle.node_lives.specs.Answered.{lines_answered, Ran, behind_ran, watcher_ran, operator_ran, wallet_ran, ran_as, ran_by}
use Rattle.node_lives.specs.Laws.{IsLastLine, RunsWriteTheirAnswers}

all-front : (before after : Option (List ℕ)) (text : List ℕ) → Wrote before after text → WroteFront before after text
all-front before after text wrote = record { front = text; back = []; whole = append-nil text; wrote = wrote }

-- what a run wrote that ended as an output
pub ends-front : (output : Output) (status : Status) (before after : Option (List ℕ)) (failed : Type 0)
    → EndsAs output status before after failed → WroteFront before after (output.answers ++ output.last)
ends-front output WriteFault before after failed ends = ends.front
ends-front output NoMemory before after failed ends = ends.front
ends-front output ReadFault before after failed ends = all-front before after _ ends.0.1
ends-front output Done before after failed ends = all-front before after _ ends.1
ends-front output Refused before after failed ends = all-front before after _ ends.1
ends-front output Usage before after failed ends = all-front before after _ ends.1
ends-front output BadLine before after failed ends = all-front before after _ ends.1
ends-front output DeviceFault before after failed ends = all-front before after _ ends.1
ends-front output TooLong before after failed ends = all-front before after _ ends.1
ends-front output NotJournal before after failed ends = all-front before after _ ends.1
ends-front output AlreadyMade before after failed ends = all-front before after _ ends.1

-- a text was written, or a beginning of it, and what is said of the end behind it
record Writes (outside : Outside) (text : List ℕ) : Type 0 where
  last : List ℕ
  ends : IsLastLine last
  wrote : WroteFront outside.taken outside.after (text ++ last)

no-last : IsLastLine []
unfolding last_text
no-last = inl (Complete, refl)

module _ {A L : Type 0} {rules : Rules (SessionState A) (List ℕ)} {command_in : List ℕ → Option L} {found : A}
    {Left : A → Type 0} {Faulted Unanswered : List RootCall → A → L → Type 0} {outside : Outside} {failed : Type 0}
    {status : Status} where
  session-writes : (session : RunsSession rules command_in found Left Faulted Unanswered outside failed status)
      → Writes outside (lines_answered session).stream.text
  session-writes (inl answered) =
      let session = stream_of rules (begun found) answered.bytes answered.ended in
      record {
        last = last_text session.ending;
        ends = inl (session.ending, refl);
        wrote = ends-front (session_output session) status outside.taken outside.after failed answered.ends;
      }
  session-writes (inr (inl faulted)) = record {
    last = (fault_output faulted.stream.text).last;
    ends = inr refl;
    wrote = ends-front (fault_output faulted.stream.text) status outside.taken outside.after ⊥ faulted.ends;
  }
  session-writes (inr (inr broken)) = record {
    last = [];
    ends = no-last;
    wrote =
        subst (WroteFront outside.taken outside.after) (sym (append-nil broken.stream.text)) broken.front;
  }

module _ {D : Type 0} (told : D → Option History) (plan : D → Option FaultPlan) (faults : D → ℕ)
    (dig : List ℕ → List ℕ) where
  abbrev WritesOf : Outside → Option Ran → Type 0
  WritesOf outside ran = (one : Ran) → ran ≡ Some one → Writes outside one.text

  none-writes : (outside : Outside) → WritesOf outside None
  none-writes outside one is = absurd (cc is)

  one-writes : (outside : Outside) (ran : Ran) → Writes outside ran.text → WritesOf outside (Some ran)
  one-writes outside ran writes one is =
      (let same : ran ≡ one = cc is in subst (λ (r : Ran). Writes outside r.text) same writes)

  behind-writes : (seed : Option (List ℕ)) (opened : NotesState D) (leaves new_notes new_leaves : D)
      (outside : Outside) (status : Status)
      → (runs : RunsBehind told plan faults dig seed opened leaves new_notes new_leaves outside (Unit {0}) status)
      → WritesOf outside
      (behind_ran told plan faults dig seed opened leaves new_notes new_leaves outside status runs)
  unfolding behind_ran
  behind-writes None opened leaves new_notes new_leaves outside status (session, same) =
      one-writes outside _ (session-writes session)
  behind-writes (Some seed) opened leaves new_notes new_leaves outside status (inl (desk, opens, session)) =
      one-writes outside _ (session-writes session)
  behind-writes (Some seed) opened leaves new_notes new_leaves outside status (inr refused) = none-writes outside

  run-writes : (role : Role) (old new : Pair D) (outside : Outside) (status : Status)
      → (runs : RunsAs told plan faults dig role old new outside status)
      → WritesOf outside (ran_as told plan faults dig role old new outside status runs)
  unfolding RunsWatcher RunsOperator RunsWallet ran_as wallet_ran watcher_ran operator_ran
  run-writes Wallet old new outside status (inl (opened, opens, session)) =
      one-writes outside _ (session-writes session)
  run-writes Wallet old new outside status (inr refused) = none-writes outside
  run-writes Watcher old new outside status (inl (opened, opens, session), same) =
      one-writes outside _ (session-writes session)
  run-writes Watcher old new outside status (inr refused, same) = none-writes outside
  run-writes Operator old new outside status (inl (opened, opens, behind)) =
      behind-writes (who_is opened.records).key_seed opened old.leaves new.notes new.leaves outside status behind
  run-writes Operator old new outside status (inr refused) = none-writes outside

  by-writes : (asked : Asked) (old new : Pair D) (outside : Outside) (status : Status)
      → (did : DoesAsked told plan faults dig asked old new outside status ⊎ Starves old new status)
      → WritesOf outside (ran_by told plan faults dig asked old new outside status did)
  unfolding ran_by
  by-writes (ToRun role) old new outside status (inl did) = run-writes role old new outside status did
  by-writes (ToRun role) old new outside status (inr starves) = none-writes outside
  by-writes (ToBegin role identity) old new outside status did = none-writes outside
  by-writes (ToSign message) old new outside status did = none-writes outside
  by-writes ToUseNoDisk old new outside status did = none-writes outside

  pub runs_write_their_answers : RunsWriteTheirAnswers told plan faults dig
  runs_write_their_answers call ran is =
      let writes = by-writes call.asked call.old call.new call.outside call.status call.did ran is in
      record { last = writes.last; ends = writes.ends; wrote = writes.wrote }
