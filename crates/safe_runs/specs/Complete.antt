-- Inputs that a look reads to their end, and what is said of them unless something fails.
use Rattle.std.specs.Prelude.{◌≡◌, ◌⊎◌, ℕ, ◌+◌, true, false, List, [], ◌∷◌, length, Option, Some, None, Ok}
use Rattle.crash_disk.specs.Disk.{History, content}
use Rattle.plasma_tx.specs.Chain.{Chain}
use Rattle.root_log.specs.Grammar.{chain_in, appended}
use Rattle.root_log.specs.EndOfLog.{is_end_of_log}
use Rattle.streamed_lines.specs.Lines.{lines_in, text_of, is_too_long}
use Rattle.run_endings.specs.declared.status.Status.{Status}
use Rattle.run_endings.specs.declared.status.Status.TheVariants.{Done, Refused, Usage, BadLine, ReadFault, WriteFault, DeviceFault, NoMemory, TooLong, NotJournal, AlreadyMade}
use Rattle.run_endings.specs.Outputs.{Output, EndsWhole}
use Rattle.safe_runs.specs.declared.role.Role.{Role}
use Rattle.safe_runs.specs.declared.role.Role.TheVariants.{Wallet, Watcher}
use Rattle.safe_runs.specs.declared.told.Told.{Told}
use Rattle.safe_runs.specs.Sessions.{told_in, untold}
use Rattle.safe_runs.specs.Runs.{Node, Outside, look_output, watcher_in, wallet_in}

-- ---- good inputs

-- Line n, which begins after so many bytes, and those behind it pass no limit, and each tells something behind what was
-- told before.
unfoldable pub AreTold : Told → ℕ → ℕ → List (List ℕ) → Type 0
AreTold told n start [] = Unit {0}
AreTold told n start (line ∷ lines) =
    (is_too_long n start line ≡ false)
    × ((next : Told) × (told_in told (text_of line) ≡ Ok next) × AreTold next (n + 1) (start + length line) lines)

-- Such lines are the other calls of a log, the line `--`, and lines behind it that tell something.
unfoldable pub EndLogAndAreTold : Chain → ℕ → ℕ → List (List ℕ) → Type 0
EndLogAndAreTold chain n start [] = ⊥
EndLogAndAreTold chain n start (line ∷ lines) =
    (is_too_long n start line ≡ false)
    × (((is_end_of_log (text_of line) ≡ true) × AreTold untold (n + 1) (start + length line) lines)
    ⊎ ((is_end_of_log (text_of line) ≡ false) × ((longer : Chain) × (appended chain (text_of line) ≡ Some longer)
    × EndLogAndAreTold longer (n + 1) (start + length line) lines)))

-- These lines are a log of the chain with this tag, the line `--`, and lines behind it that tell something.
unfoldable pub KeepTheRules : List ℕ → List (List ℕ) → Type 0
KeepTheRules tag [] = ⊥
KeepTheRules tag (line ∷ lines) =
    (is_too_long 1 0 line ≡ false)
    × ((chain : Chain) × (chain_in (text_of line) ≡ Some chain) × (chain.tag ≡ tag)
    × EndLogAndAreTold chain 2 (length line) lines)

-- ---- what is said of them

-- A run with this status says all of an output, unless something fails that it stands on: the source, the sink, a disk
-- or memory.
abbrev pub SaysUnlessFailed : Output → Option (List ℕ) → Option (List ℕ) → Status → Type 0
SaysUnlessFailed output before after ReadFault = Unit {0}
SaysUnlessFailed output before after WriteFault = Unit {0}
SaysUnlessFailed output before after DeviceFault = Unit {0}
SaysUnlessFailed output before after NoMemory = Unit {0}
SaysUnlessFailed output before after Done = EndsWhole output Done before after
SaysUnlessFailed output before after Refused = EndsWhole output Refused before after
SaysUnlessFailed output before after Usage = ⊥
SaysUnlessFailed output before after BadLine = ⊥
SaysUnlessFailed output before after TooLong = ⊥
SaysUnlessFailed output before after NotJournal = ⊥
SaysUnlessFailed output before after AlreadyMade = ⊥

-- over disks that tell their history, and under a digest; a run with this status
module _ {D : Type 0} (told : D → Option History) (dig : List ℕ → List ℕ) (outside : Outside) (status : Status) where
  -- Where the source tells an input whose lines keep the rules of a look at the node, all is said of its coins.
  abbrev pub LookComplete : Node → Type 0
  LookComplete node =
      (input : List ℕ) → outside.left ≡ Some input → KeepTheRules node.tag (lines_in input)
      → SaysUnlessFailed (look_output node input true) outside.taken outside.after status

  -- so it is where the disk tells that its image spells the records of a watcher
  abbrev pub WatcherComplete : D → Type 0
  WatcherComplete notes =
      (history : History) (node : Node) → told notes ≡ Some history → watcher_in dig (content history) ≡ Ok node
      → LookComplete node

  -- and where two tell those of a wallet
  abbrev pub WalletComplete : D → D → Type 0
  WalletComplete notes leaves =
      (of_notes of_leaves : History) (node : Node) → told notes ≡ Some of_notes → told leaves ≡ Some of_leaves
      → wallet_in dig (content of_notes) (content of_leaves) ≡ Ok node → LookComplete node

  abbrev pub CompletesBy : Option Role → D → D → Type 0
  CompletesBy None notes leaves = Unit {0}
  CompletesBy (Some Watcher) notes leaves = WatcherComplete notes
  CompletesBy (Some Wallet) notes leaves = WalletComplete notes leaves
