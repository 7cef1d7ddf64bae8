-- That a run of a node answers its lines before it reads more of them.
use Rattle.std.specs.Prelude.{◌⊎◌, ℕ, Bool, false, List, [], Option, Some, None}
use Rattle.crash_disk.specs.Disk.{History, FaultPlan}
use Rattle.node_journal.specs.{Notes.{NotesState, Opened}, Role.{role_in}, Parts.{Parts, alone, both}}
use Rattle.node_rules.specs.Watcher.{watcher_kinds}
use Rattle.operator_rules.specs.Records.{operator_kinds, who_is}
use Rattle.wallet_node.specs.{State.{WalletState}, Opening.{OpensWallet}}
use Rattle.node_roles.specs.{Nodes.{Commands}, Roles.{watcher_commands, operator_commands, desk_commands, wallet_commands, wallet_parts}}
use Rattle.node_sessions.specs.Sessions.{begun}
use Rattle.streamed_lines.specs.{Outside.{Gave}, Prompt.{answers_so_far, AnswersPromptly}}
use Rattle.node_runs.specs.{Sessions.{Outside}, Runs.{node_rules, node_found}, Operators.{desk_records_in}}

-- a run that did this outside, and whose last take failed or didn't
module _ (outside : Outside) (failed_last : Bool) where
  -- it answers promptly, with these answers to what it has read
  abbrev pub RunsPromptly : (List ℕ → List ℕ) → Type 0
  RunsPromptly answers =
      AnswersPromptly answers outside.left outside.later failed_last outside.taken outside.after

  -- it reads nothing
  abbrev pub ReadsNothing : Type 0
  ReadsNothing = Gave outside.left outside.later [] false

  -- Something was opened, and the run went on so; or nothing is read.
  abbrev pub OpensPromptly : {T : Type 0} → (T → Type 0) → (T → Type 0) → Type 0
  OpensPromptly {T = T} Opens Runs = ((opened : T) × Opens opened × Runs opened) ⊎ ReadsNothing

  -- over disks that tell their history, foretell their faults and count them
  module _ {D : Type 0} (told : D → Option History) (plan : D → Option FaultPlan) (faults : D → ℕ)
      (dig : List ℕ → List ℕ) where
    -- the session of a node that was opened is answered promptly
    abbrev pub NodePromptly : {L : Type 0} → Commands L → Parts (NotesState D) → Type 0
    NodePromptly commands opened =
        RunsPromptly
        (answers_so_far (node_rules told plan faults dig commands opened)
        (begun (node_found told plan faults dig opened)))

    unfoldable pub WatcherPromptly : D → Type 0
    WatcherPromptly notes =
        OpensPromptly
        (λ opened. Opened told plan faults (role_in (watcher_kinds dig)) notes opened)
        (λ opened. NodePromptly watcher_commands (alone opened))

    -- that of an operator, whose identity has no key, or one whose leaves were opened too, or weren't
    abbrev pub PromptlyBehind : Option (List ℕ) → NotesState D → D → Type 0
    PromptlyBehind None opened leaves = NodePromptly operator_commands (alone opened)
    PromptlyBehind (Some seed) opened leaves =
        OpensPromptly
        (λ desk. Opened told plan faults (desk_records_in seed) leaves desk)
        (λ desk. NodePromptly desk_commands (both opened desk))

    unfoldable pub OperatorPromptly : D → D → Type 0
    OperatorPromptly notes leaves =
        OpensPromptly
        (λ opened. Opened told plan faults (role_in operator_kinds) notes opened)
        (λ opened. PromptlyBehind (who_is opened.records).key_seed opened leaves)

    unfoldable pub WalletPromptly : D → D → Type 0
    WalletPromptly notes leaves =
        OpensPromptly
        (λ (opened : WalletState D (Unit {0})). OpensWallet told plan faults dig notes leaves opened)
        (λ opened. NodePromptly wallet_commands (wallet_parts opened))
