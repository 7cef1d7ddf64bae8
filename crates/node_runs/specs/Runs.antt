-- What a run of a node does: of a watcher, and of a wallet.
use Rattle.std.specs.Prelude.{◌⊎◌, ℕ, false, List, [], Option}
use Rattle.crash_disk.specs.Disk.{History, FaultPlan}
use Rattle.gate_journal.specs.declared.refusal.JournalRefusal.{JournalRefusal}
use Rattle.node_journal.specs.{Notes.{NotesState, Opened, RefusesRole}, Role.{role_in}, Parts.{Parts, alone, both}}
use Rattle.node_rules.specs.Watcher.{watcher_kinds}
use Rattle.wallet_node.specs.{State.{WalletState}, Opening.{OpensWallet, RefusesWallet}}
use Rattle.node_roles.specs.{Notes.{NotesAt, with_note}, Parts.{with_effect}, Nodes.{NodeAt, Commands, outcome_at, node_does}, Roles.{watcher_commands, wallet_commands, wallet_parts}}
use Rattle.node_sessions.specs.Sessions.{SessionState, session_rules}
use Rattle.streamed_lines.specs.{Streams.{Rules}, Outside.{Gave}}
use Rattle.run_endings.specs.{declared.status.Status.{Status}, Outputs.{EndsAs}}
use Rattle.node_runs.specs.{Endings.{refused_output}, Disks.{node_opened, KeepsNode, NodeFailed}, Sessions.{Outside, RunsSession}}

-- an opening was refused for this: nothing was read, and the run says why
pub record RefusedRun (why : JournalRefusal) (outside : Outside) (status : Status) : Type 0 where
  pub gave : Gave outside.left outside.later [] false
  pub ends : EndsAs (refused_output why) status outside.taken outside.after ⊥

-- something was opened, and the run went on so; or the opening was refused
abbrev pub OpensAndRuns : {T : Type 0} → (T → Type 0) → (T → Type 0) → (JournalRefusal → Type 0) → Outside → Status
    → Type 0
OpensAndRuns {T = T} Opens Runs Refuses outside status =
    ((opened : T) × Opens opened × Runs opened) ⊎ ((why : JournalRefusal) × Refuses why × RefusedRun why outside status)

-- over disks that tell their history, foretell their faults and count them, and under a digest
module _ {D : Type 0} (told : D → Option History) (plan : D → Option FaultPlan) (faults : D → ℕ)
    (dig : List ℕ → List ℕ) where
  -- where a session finds a node that was opened
  abbrev pub node_found : Parts (NotesState D) → NodeAt NotesAt
  node_found opened = record { kept = node_opened told faults opened; dig = dig }

  -- by such commands
  module _ {L : Type 0} (commands : Commands L) where
    -- the rules of its session
    abbrev pub node_rules : Parts (NotesState D) → Rules (SessionState (NodeAt NotesAt)) (List ℕ)
    node_rules opened = session_rules (commands.tag opened.notes.records) commands.command_in (node_does commands)

    -- the session of a node that was opened, whose disks are handed back
    abbrev pub NodeSession : Parts (NotesState D) → Parts D → Outside → Type 0 → Status → Type 0
    NodeSession opened disks outside failed status =
        RunsSession
        (node_rules opened)
        commands.command_in
        (node_found opened)
        (λ at. KeepsNode told faults at.kept disks)
        (λ log at line. NodeFailed told faults (outcome_at commands log at line) at.kept disks)
        (λ log at line. KeepsNode told faults (with_effect with_note at.kept (outcome_at commands log at line)) disks)
        outside failed status

  -- a run of a watcher
  unfoldable pub RunsWatcher : D → D → Outside → Type 0 → Status → Type 0
  RunsWatcher old new outside failed status =
      OpensAndRuns
      (λ opened. Opened told plan faults (role_in (watcher_kinds dig)) old opened)
      (λ opened. NodeSession watcher_commands (alone opened) (alone new) outside failed status)
      (λ why. RefusesRole told plan faults (role_in (watcher_kinds dig)) old why new)
      outside status

  -- A run of a wallet: its disks are opened, the notes before the leaves. Of the wallet in memory the digest's value is
  -- left out.
  unfoldable pub RunsWallet : D → D → D → D → Outside → Type 0 → Status → Type 0
  RunsWallet notes leaves new_notes new_leaves outside failed status =
      OpensAndRuns
      (λ (opened : WalletState D (Unit {0})). OpensWallet told plan faults dig notes leaves opened)
      (λ opened. NodeSession wallet_commands (wallet_parts opened) (both new_notes new_leaves) outside failed status)
      (λ why. RefusesWallet told plan faults dig notes leaves why new_notes new_leaves)
      outside status
