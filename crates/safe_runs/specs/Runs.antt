-- What a run does: whose coins are asked for, what the disks spell, what is read of the log, and what is said.
use Rattle.std.specs.Prelude.{◌≡◌, ◌⊎◌, ℕ, Bool, true, false, if◌then◌else◌, List, [], ◌∷◌, ◌++◌, codes, map, Option, Some, None, option_map, unwrap_or, Result, Ok, Err}
use Rattle.std.specs.List.{list_all}
use Rattle.std.specs.Str.{bytes_eq}
use Rattle.crash_disk.specs.Disk.{DeviceCall, Step, History, content, asks_length, reads}
use Rattle.crash_disk.specs.Calls.{WhereTold}
use Rattle.gate_journal.specs.declared.refusal.JournalRefusal.{JournalRefusal}
use Rattle.gate_journal.specs.declared.refusal.JournalRefusal.TheVariants.{NotJournal, DeviceFault, NoMemory}
use Rattle.node_journal.specs.Role.{role_in}
use Rattle.leaf_journal.specs.Records.{leaf_records_in_of}
use Rattle.plasma_tx.specs.declared.call.RootCall.{RootCall}
use Rattle.plasma_tx.specs.Views.{now}
use Rattle.node_rules.specs.Watcher.{watcher_kinds, who_is}
use Rattle.node_rules.specs.WalletRecords.{wallet_kinds, is_body, leaves_in}
use Rattle.node_rules.specs.Wallet.{WalletRecords, who}
use Rattle.node_rules.specs.WalletOpening.{leaves_of, are_bound, unbound_place}
use Rattle.node_sessions.specs.Sessions.{begun, calls_of}
use Rattle.streamed_lines.specs.declared.ending.Ending.{Ending}
use Rattle.streamed_lines.specs.declared.ending.Ending.TheVariants.{Complete, BadLine, ReadFault, TooLong, Ended}
use Rattle.streamed_lines.specs.Outside.{Gave}
use Rattle.streamed_lines.specs.Streams.{Streamed, stream_of}
use Rattle.run_endings.specs.declared.status.Status.{Status}
use Rattle.run_endings.specs.declared.status.Status.TheVariants.{Usage, NotJournal as NotJournalStatus, NoMemory as NoMemoryStatus}
use Rattle.run_endings.specs.Outputs.{Output, EndsAs}
use Rattle.run_endings.specs.Endings.{status_of, last_text, fault_output}
use Rattle.run_endings.specs.Texts.{not_journal_text}
use Rattle.safe_runs.specs.declared.case.Case.{Case}
use Rattle.safe_runs.specs.declared.role.Role.{Role}
use Rattle.safe_runs.specs.declared.role.Role.TheVariants.{Wallet, Watcher}
use Rattle.safe_runs.specs.Cases.{guard_cases, wallet_cases}
use Rattle.safe_runs.specs.Answers.{cases_output}
use Rattle.safe_runs.specs.Sessions.{LookState, look_rules, untold}

-- ---- words

-- the role that a word names
abbrev pub role_named : List ℕ → Option Role
role_named word =
    if bytes_eq word (codes "wallet") then Some Wallet
    else if bytes_eq word (codes "watcher") then Some Watcher
    else None

-- the role that the words of a run name: they are one word
abbrev pub role_of : List (List ℕ) → Option Role
role_of [] = None
role_of (word ∷ []) = role_named word
role_of (word ∷ other ∷ words) = None

-- other words: the line that names the forms
abbrev pub usage_output : Output
usage_output = record { status = Usage; answers = []; last = codes "usage: safe wallet | watcher" ++ 10 ∷ [] }

-- what the source of a run had left and its sink had taken, before and after, where they tell it
pub record Outside : Type 0 where
  pub left : Option (List ℕ)
  pub later : Option (List ℕ)
  pub taken : Option (List ℕ)
  pub after : Option (List ℕ)

-- ---- what the disks spell

-- a node as a look sees it: the tag of its chain, the account that would enter calls, and its coins by a log, where some
-- are hidden
pub record Node : Type 0 where
  pub tag : List ℕ
  pub account : ℕ
  pub cases : List RootCall → List ℕ → List Case

abbrev pub watcher_node : (List ℕ → List ℕ) → List (List ℕ) → Node
watcher_node dig records =
    record { tag = (who_is records).tag; account = (who_is records).account; cases = guard_cases dig records }

abbrev pub wallet_node : (List ℕ → List ℕ) → WalletRecords → Node
wallet_node dig wallet =
    record { tag = (who wallet).tag; account = (who wallet).account; cases = wallet_cases dig wallet }

-- where it was read; else the place where it wasn't
abbrev pub behind : {A B : Type 0} → (A → Result B ℕ) → Result A ℕ → Result B ℕ
behind next (Err place) = Err place
behind next (Ok value) = next value

-- the watcher whose records an image spells, or the place of the first gate that is wrong
abbrev pub watcher_in : (List ℕ → List ℕ) → List ℕ → Result Node ℕ
watcher_in dig image = behind (λ records. Ok (watcher_node dig records)) (role_in (watcher_kinds dig) image)

-- the wallet of these records, where each note that takes a leaf back is of one that may be
abbrev pub bound_wallet : (List ℕ → List ℕ) → WalletRecords → Result Node ℕ
bound_wallet dig wallet =
    if are_bound dig wallet then Ok (wallet_node dig wallet)
    else Err (unbound_place dig (leaves_in wallet.leaves) wallet.notes)

-- the wallet whose records two images spell: its notes, and the leaves of its key
abbrev pub wallet_in : (List ℕ → List ℕ) → List ℕ → List ℕ → Result Node ℕ
wallet_in dig notes leaves =
    behind
    (λ of_notes.
    behind (λ of_leaves. bound_wallet dig (record { notes = of_notes; leaves = of_leaves }))
    (leaf_records_in_of is_body (leaves_of of_notes) leaves))
    (role_in (wallet_kinds dig) notes)

-- ---- what is said

-- what is said of a node's coins behind a log that was read to its end; the time is the log's own where none was told
abbrev pub whole_output : Node → LookState → Output
whole_output node run =
    let log = calls_of run.log in
    cases_output log node.account (unwrap_or run.node.clock (now log)) (node.cases log run.node.hidden)

-- lines that came to this, and what ended them: nothing is said of coins where they weren't read to their end
abbrev pub ended_output : Node → LookState → Ending (List ℕ) → Output
ended_output node run Complete = whole_output node run
ended_output node run ending = record { status = status_of ending; answers = []; last = last_text ending }

-- the lines of an input, and what is said of them
abbrev pub lines_of : Node → List ℕ → Bool → Streamed LookState (List ℕ)
lines_of node bytes ended = stream_of (look_rules node.tag) (begun untold) bytes ended

abbrev pub look_output : Node → List ℕ → Bool → Output
look_output node bytes ended =
    let lines = lines_of node bytes ended in ended_output node lines.stream.run lines.ending

-- A look at a node's coins: the source gave these bytes, and what was written and the status are the output over them.
-- `failed` says that the reading failed.
pub record Looks (node : Node) (outside : Outside) (failed : Type 0) (status : Status) : Type 0 where
  pub bytes : List ℕ
  pub ended : Bool
  pub gave : Gave outside.left outside.later bytes ended
  pub ends : EndsAs (look_output node bytes ended) status outside.taken outside.after failed

-- ---- a run

-- what a run says whose disks weren't read, or spell no node
abbrev pub refused_output : JournalRefusal → Output
refused_output (NotJournal place) = record { status = NotJournalStatus; answers = []; last = not_journal_text place }
refused_output DeviceFault = fault_output []
refused_output why = record { status = NoMemoryStatus; answers = []; last = [] }

-- such a run: nothing was read of the source, and it says why
pub record Refused (why : JournalRefusal) (outside : Outside) (status : Status) : Type 0 where
  pub gave : Gave outside.left outside.later [] false
  pub ends : EndsAs (refused_output why) status outside.taken outside.after ⊥

-- a node was read, and is looked at; or none was, for this cause
abbrev pub ReadsAndLooks : (Node → Type 0) → (JournalRefusal → Type 0) → Outside → Type 0 → Status → Type 0
ReadsAndLooks Reads Refuses outside failed status =
    ((node : Node) × Reads node × Looks node outside failed status)
    ⊎ ((why : JournalRefusal) × Refuses why × Refused why outside status)

-- why an image isn't taken for that of a node: the place, or want of memory
abbrev pub IsRefused : Result Node ℕ → JournalRefusal → Type 0
IsRefused read (NotJournal place) = read ≡ Err place
IsRefused read NoMemory = Unit {0}
IsRefused read why = ⊥

-- why a disk isn't read: it failed, or memory ran out
abbrev pub IsUnread : JournalRefusal → Type 0
IsUnread DeviceFault = Unit {0}
IsUnread NoMemory = Unit {0}
IsUnread why = ⊥

-- a device call that asks for the length or reads
abbrev pub is_look_step : Step → Bool
is_look_step asks_length = true
is_look_step (reads place count) = true
is_look_step step = false

abbrev pub is_look : DeviceCall → Bool
is_look call = is_look_step call.step

-- the history with these calls behind it
abbrev pub with_looks : List DeviceCall → History → History
with_looks looks history = record { began = history.began; calls = looks ++ history.calls }

-- over disks that tell their history, and under a digest
module _ {D : Type 0} (told : D → Option History) where
  -- The disk is handed back with device calls behind those that it told, each of which asks for the length or reads.
  abbrev pub OnlyLooks : D → D → Type 0
  OnlyLooks old new =
      (looks : List DeviceCall) × (list_all is_look looks ≡ true)
      × (told new ≡ option_map (with_looks looks) (told old))

  -- this holds of the image that was read of the disk, which is what it holds, where it tells that
  abbrev pub HoldsOf : D → (List ℕ → Type 0) → Type 0
  HoldsOf disk P = (image : List ℕ) × WhereTold (told disk) (λ before. image ≡ content before) × P image

  module _ (dig : List ℕ → List ℕ) where
    -- a run over a watcher's notes: the node that they spell is looked at, or it says why there is none
    abbrev pub RunsWatcher : D → Outside → Type 0 → Status → Type 0
    RunsWatcher notes outside failed status =
        ReadsAndLooks
        (λ node. HoldsOf notes (λ image. watcher_in dig image ≡ Ok node))
        (λ why. IsUnread why ⊎ HoldsOf notes (λ image. IsRefused (watcher_in dig image) why))
        outside failed status

    -- and one over a wallet's notes and leaves
    abbrev pub RunsWallet : D → D → Outside → Type 0 → Status → Type 0
    RunsWallet notes leaves outside failed status =
        ReadsAndLooks
        (λ node. HoldsOf notes (λ of_notes. HoldsOf leaves (λ of_leaves. wallet_in dig of_notes of_leaves ≡ Ok node)))
        (λ why. IsUnread why
        ⊎ HoldsOf notes (λ of_notes. HoldsOf leaves (λ of_leaves. IsRefused (wallet_in dig of_notes of_leaves) why)))
        outside failed status

    -- what a run does, by its words
    abbrev pub RunsSafe : Option Role → D → D → Outside → Type 0 → Status → Type 0
    RunsSafe None notes leaves outside failed status = EndsAs usage_output status outside.taken outside.after ⊥
    RunsSafe (Some Watcher) notes leaves outside failed status = RunsWatcher notes outside failed status
    RunsSafe (Some Wallet) notes leaves outside failed status = RunsWallet notes leaves outside failed status
