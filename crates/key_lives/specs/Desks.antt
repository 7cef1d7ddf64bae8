-- Which receipts the runs of an operator gave out, by which leaf of its key.
use Rattle.std.specs.Prelude.{◌≡◌, ◌⊎◌, ◌<◌, ℕ, List, length, Option, Some, None, Ok}
use mathlib.Core.Logic.{inl, inr}
use Rattle.crash_disk.specs.Disk.{History, FaultPlan}
use Rattle.leaf_journal.specs.Records.{messages_of}
use Rattle.node_journal.specs.Notes.{NotesState}
use Rattle.operator_rules.specs.Records.{who_is}
use Rattle.receipt_audit.specs.Desk.{IssueEffect, issue_effect}
use Rattle.node_rules.specs.Wallet.{WalletRecords}
use Rattle.node_replies.specs.Roles.{Operator}
use Rattle.node_lines.specs.declared.operator_line.OperatorLine.{OperatorLine}
use Rattle.node_lines.specs.Grammar.{operator_line_in}
use Rattle.node_answers.specs.Desks.{secret_of}
use Rattle.node_roles.specs.Notes.{NotesAt}
use Rattle.node_journal.specs.Parts.{Parts, both}
use Rattle.node_roles.specs.Nodes.{NodeAt}
use Rattle.node_roles.specs.Roles.{desk_commands}
use Rattle.node_sessions.specs.Sessions.{SessionState, begun, calls_of, commanded}
use Rattle.streamed_lines.specs.Streams.{Stream}
use Rattle.streamed_lines.specs.Reading.{next_text}
use Rattle.run_endings.specs.declared.status.Status.{Status}
use Rattle.node_runs.specs.Sessions.{Outside, Begins}
use Rattle.node_runs.specs.Runs.{node_rules, node_found}
use Rattle.node_runs.specs.Operators.{RunsBehind, RunsOperator}
use Rattle.node_lives.specs.Disks.{Pair}
use Rattle.node_lives.specs.Calls.{Asked, ToRun, DoesAsked, Starves, Call}
use Rattle.node_lives.specs.Answered.{Lines, lines_answered, kept_at}

-- an operator with a key that a run opened, with the leaves of its key, and the lines that it answered
pub record DeskRan (D : Type 0) : Type 0 where
  pub opened : NotesState D
  pub desk : NotesState D
  pub lines : Lines (NodeAt NotesAt)

abbrev pub desk_parts : {D : Type 0} → DeskRan D → Parts (NotesState D)
desk_parts ran = both ran.opened ran.desk

-- the records that it left
abbrev pub desk_left : {D : Type 0} → DeskRan D → WalletRecords
desk_left ran = kept_at ran.lines.stream.run.node

-- what an issue comes to at an operator to which its commands came
abbrev pub issues_at : SessionState (NodeAt NotesAt) → List ℕ → ℕ → IssueEffect
issues_at session transfer due =
    let records = kept_at session.node in
    issue_effect session.node.dig session.node.dig (secret_of records.notes) records.notes records.leaves
    (calls_of session.log) transfer due

-- over disks that tell their history, foretell their faults and count them, and under a digest
module _ {D : Type 0} (told : D → Option History) (plan : D → Option FaultPlan) (faults : D → ℕ)
    (dig : List ℕ → List ℕ) where
  -- of a run behind notes that were opened, by the seed of the key: none without one, or where its leaves weren't opened
  unfoldable pub desk_ran_behind : (seed : Option (List ℕ)) (opened : NotesState D) (leaves new_notes new_leaves : D)
      (outside : Outside) (status : Status)
      → RunsBehind told plan faults dig seed opened leaves new_notes new_leaves outside (Unit {0}) status
      → Option (DeskRan D)
  desk_ran_behind None opened leaves new_notes new_leaves outside status (session, same) = None
  desk_ran_behind (Some seed) opened leaves new_notes new_leaves outside status (inl (desk, opens, session)) =
      Some (record { opened = opened; desk = desk; lines = lines_answered session })
  desk_ran_behind (Some seed) opened leaves new_notes new_leaves outside status (inr refused) = None

  unfoldable pub desk_ran : (notes leaves new_notes new_leaves : D) (outside : Outside) (status : Status)
      → RunsOperator told plan faults dig notes leaves new_notes new_leaves outside (Unit {0}) status
      → Option (DeskRan D)
  unfolding RunsOperator
  desk_ran notes leaves new_notes new_leaves outside status (inl (opened, opens, behind)) =
      desk_ran_behind (who_is opened.records).key_seed opened leaves new_notes new_leaves outside status behind
  desk_ran notes leaves new_notes new_leaves outside status (inr refused) = None

  -- of a call; none where it was no run of an operator, or memory ran out before it used a disk
  unfoldable pub desk_ran_by : (asked : Asked) (old new : Pair D) (outside : Outside) (status : Status)
      → DoesAsked told plan faults dig asked old new outside status ⊎ Starves old new status → Option (DeskRan D)
  desk_ran_by (ToRun Operator) old new outside status (inl did) =
      desk_ran old.notes old.leaves new.notes new.leaves outside status did
  desk_ran_by asked old new outside status did = None

  abbrev pub desk_ran_in : Call told plan faults dig → Option (DeskRan D)
  desk_ran_in call = desk_ran_by call.asked call.old call.new call.outside call.status call.did

  -- An operator's run answered one of its lines with this receipt, by leaf q of its key: a `receipt` spelled there, behind
  -- the lines before it, with so many promises bound before.
  pub record GivesReceipt (call : Call told plan faults dig) (q : ℕ) (receipt : List ℕ) : Type 0 where
    pub ran : DeskRan D
    pub is : desk_ran_in call ≡ Some ran
    pub before : Stream (SessionState (NodeAt NotesAt))
    pub lines : Begins (node_rules told plan faults dig desk_commands (desk_parts ran))
        (begun (node_found told plan faults dig (desk_parts ran))) ran.lines.bytes before
    pub answered : before.count < ran.lines.stream.count
    pub line : OperatorLine
    pub spelled : commanded operator_line_in before.run (next_text ran.lines.bytes before) ≡ Some line
    pub transfer : List ℕ
    pub due : ℕ
    pub ordered : line ≡ OperatorLine.Receipt transfer due
    pub leaf : length (messages_of (kept_at before.run.node).leaves) ≡ q
    pub gives : (issues_at before.run transfer due).answer ≡ Ok (record { bytes = receipt })
