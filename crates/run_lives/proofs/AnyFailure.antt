-- A node's run, where why its reading failed is left out.
use Rattle.run_lives.proofs.Words.{ℕ, List, Option, Some, None, inl, inr, History, FaultPlan, Status, Outside, RunsSession}
use Rattle.plasma_tx.specs.declared.call.RootCall.{RootCall}
use Rattle.node_journal.specs.Notes.{NotesState}
use Rattle.streamed_lines.specs.Streams.{Rules, stream_of}
use Rattle.run_endings.specs.declared.status.Status.TheVariants.{ReadFault, WriteFault, NoMemory}
use Rattle.run_endings.specs.Outputs.{Output, EndsAs}
use Rattle.operator_rules.specs.Records.{who_is}
use Rattle.node_sessions.specs.Sessions.{SessionState, begun}
use Rattle.run_endings.specs.Endings.{session_output}
use Rattle.node_runs.specs.Runs.{RunsWatcher, RunsWallet}
use Rattle.node_runs.specs.Operators.{RunsBehind, RunsOperator}

ends-any : (output : Output) (status : Status) (before after : Option (List ℕ)) (failed : Type 0)
    → EndsAs output status before after failed → EndsAs output status before after (Unit {0})
ends-any output WriteFault before after failed ends = record { front = ends.front; fault = λ is. inl tt }
ends-any output NoMemory before after failed ends = record { front = ends.front; fault = λ is. inl tt }
ends-any output ReadFault before after failed ends = (ends.0, tt)
ends-any output status before after failed ends = ends

module _ {A L : Type 0} {rules : Rules (SessionState A) (List ℕ)} {command_in : List ℕ → Option L} {found : A}
    {Left : A → Type 0} {Faulted Unanswered : List RootCall → A → L → Type 0} {outside : Outside} {failed : Type 0}
    {status : Status} where
  session-any : RunsSession rules command_in found Left Faulted Unanswered outside failed status
      → RunsSession rules command_in found Left Faulted Unanswered outside (Unit {0}) status
  session-any (inl answered) = inl (record {
    bytes = answered.bytes;
    ended = answered.ended;
    gave = answered.gave;
    ends =
        ends-any (session_output (stream_of rules (begun found) answered.bytes answered.ended)) status
        outside.taken outside.after failed answered.ends;
    few = answered.few;
    left = answered.left;
  })
  session-any (inr (inl faulted)) = inr (inl (record {
    bytes = faulted.bytes;
    ended = faulted.ended;
    stream = faulted.stream;
    gave = faulted.gave;
    begins = faulted.begins;
    ends = faulted.ends;
    left = faulted.left;
  }))
  session-any (inr (inr broken)) = inr (inr (record {
    bytes = broken.bytes;
    ended = broken.ended;
    stream = broken.stream;
    gave = broken.gave;
    begins = broken.begins;
    front = broken.front;
    left = broken.left;
  }))

module _ {D : Type 0} (told : D → Option History) (plan : D → Option FaultPlan) (faults : D → ℕ)
    (dig : List ℕ → List ℕ) (outside : Outside) (failed : Type 0) (status : Status) where
  pub watcher-any : (old new : D) → RunsWatcher told plan faults dig old new outside failed status
      → RunsWatcher told plan faults dig old new outside (Unit {0}) status
  unfolding RunsWatcher
  watcher-any old new (inl (opened, opens, session)) = inl (opened, opens, session-any session)
  watcher-any old new (inr refused) = inr refused

  behind-any : (seed : Option (List ℕ)) (opened : NotesState D) (leaves new_notes new_leaves : D)
      → RunsBehind told plan faults dig seed opened leaves new_notes new_leaves outside failed status
      → RunsBehind told plan faults dig seed opened leaves new_notes new_leaves outside (Unit {0}) status
  behind-any None opened leaves new_notes new_leaves (session, same) = (session-any session, same)
  behind-any (Some seed) opened leaves new_notes new_leaves (inl (desk, opens, session)) =
      inl (desk, opens, session-any session)
  behind-any (Some seed) opened leaves new_notes new_leaves (inr refused) = inr refused

  pub operator-any : (notes leaves new_notes new_leaves : D)
      → RunsOperator told plan faults dig notes leaves new_notes new_leaves outside failed status
      → RunsOperator told plan faults dig notes leaves new_notes new_leaves outside (Unit {0}) status
  unfolding RunsOperator
  operator-any notes leaves new_notes new_leaves (inl (opened, opens, behind)) =
      inl (opened, opens, behind-any (who_is opened.records).key_seed opened leaves new_notes new_leaves behind)
  operator-any notes leaves new_notes new_leaves (inr refused) = inr refused

  pub wallet-any : (notes leaves new_notes new_leaves : D)
      → RunsWallet told plan faults dig notes leaves new_notes new_leaves outside failed status
      → RunsWallet told plan faults dig notes leaves new_notes new_leaves outside (Unit {0}) status
  unfolding RunsWallet
  wallet-any notes leaves new_notes new_leaves (inl (opened, opens, session)) =
      inl (opened, opens, session-any session)
  wallet-any notes leaves new_notes new_leaves (inr refused) = inr refused
