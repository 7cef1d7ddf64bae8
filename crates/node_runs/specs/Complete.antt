-- Inputs that a run of a node answers to their end, over disks that keep records of its role, and inits that are done.
use Rattle.std.specs.Prelude.{◌≡◌, ℕ, true, false, List, Option, Some, None, Ok}
use Rattle.crash_disk.specs.Disk.{History, content}
use Rattle.node_journal.specs.{Begin.{is_taken}, Role.{role_in}, Parts.{Parts, alone, both}}
use Rattle.leaf_journal.specs.Records.{leaf_records_in_of}
use Rattle.node_rules.specs.{Watcher.{watcher_kinds}, Wallet.{WalletRecords}, WalletRecords.{wallet_kinds, is_body}, WalletOpening.{leaves_of, are_bound}}
use Rattle.operator_rules.specs.Records.{operator_kinds, who_is}
use Rattle.node_roles.specs.{Nodes.{Commands, records_do}, Roles.{watcher_commands, operator_commands, desk_commands, wallet_commands}}
use Rattle.node_sessions.specs.Laws.{KeepTheRules}
use Rattle.node_runs.specs.Operators.{desk_records_in}
use Rattle.streamed_lines.specs.Lines.{lines_in}
use Rattle.run_endings.specs.{declared.status.Status.{Status}, Statuses.{IsDoneUnlessFailed}}

-- over disks that tell their history, and under a digest; a run whose source had this left, and that has this status
module _ {D : Type 0} (told : D → Option History) (dig : List ℕ → List ℕ) (left : Option (List ℕ)) (status : Status)
  where
    -- These lines are a log of the chain of the node that keeps these records, the line `--` and commands that it does
    -- over them.
    abbrev pub KeepNodeRules : {L : Type 0} → Commands L → Parts (List (List ℕ)) → List (List ℕ) → Type 0
    KeepNodeRules commands records lines =
        KeepTheRules (commands.tag records.notes) commands.command_in (records_do commands)
        (record { kept = records; dig = dig }) lines

    -- Where the disk tells that its image spells records of a watcher, and the source tells an input whose lines keep
    -- the rules of a node that keeps them, the run is done, unless something fails.
    abbrev pub WatcherComplete : D → Type 0
    WatcherComplete notes =
        (history : History) (records : List (List ℕ)) (input : List ℕ)
        → told notes ≡ Some history → role_in (watcher_kinds dig) (content history) ≡ Ok records → left ≡ Some input
        → KeepNodeRules watcher_commands (alone records) (lines_in input) → IsDoneUnlessFailed status

    -- the lines keep the rules of an operator of these records without a key, or with one, whose other disk tells that
    -- its image spells the records of the key's leaves
    abbrev pub KeepOperatorRules : Option (List ℕ) → List (List ℕ) → D → List (List ℕ) → Type 0
    KeepOperatorRules None records leaves lines = KeepNodeRules operator_commands (alone records) lines
    KeepOperatorRules (Some seed) records leaves lines =
        (of_leaves : History) × (bound : List (List ℕ)) × (told leaves ≡ Some of_leaves)
        × (desk_records_in seed (content of_leaves) ≡ Ok bound) × KeepNodeRules desk_commands (both records bound) lines

    -- the same of an operator
    abbrev pub OperatorComplete : D → D → Type 0
    OperatorComplete notes leaves =
        (history : History) (records : List (List ℕ)) (input : List ℕ)
        → told notes ≡ Some history → role_in operator_kinds (content history) ≡ Ok records → left ≡ Some input
        → KeepOperatorRules (who_is records).key_seed records leaves (lines_in input)
        → IsDoneUnlessFailed status

    -- the same of a wallet's two disks
    abbrev pub WalletComplete : D → D → Type 0
    WalletComplete notes leaves =
        (of_notes of_leaves : History) (wallet : WalletRecords) (input : List ℕ)
        → told notes ≡ Some of_notes → told leaves ≡ Some of_leaves
        → role_in (wallet_kinds dig) (content of_notes) ≡ Ok wallet.notes
        → leaf_records_in_of is_body (leaves_of wallet.notes) (content of_leaves) ≡ Ok wallet.leaves
        → are_bound dig wallet ≡ true → left ≡ Some input
        → KeepNodeRules wallet_commands (both wallet.notes wallet.leaves) (lines_in input)
        → IsDoneUnlessFailed status

    -- An init is done, unless something fails, where the disk tells that its image isn't taken; one of two disks where
    -- both do.
    abbrev pub InitComplete : D → Type 0
    InitComplete notes =
        (history : History) → told notes ≡ Some history → is_taken (content history) ≡ false
        → IsDoneUnlessFailed status

    abbrev pub InitBothComplete : D → D → Type 0
    InitBothComplete notes leaves =
        (of_notes of_leaves : History) → told notes ≡ Some of_notes → told leaves ≡ Some of_leaves
        → is_taken (content of_notes) ≡ false → is_taken (content of_leaves) ≡ false
        → IsDoneUnlessFailed status
