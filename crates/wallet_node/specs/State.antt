-- What callers see of a wallet, what stops its commands, and what they do to its two disks.
use Rattle.std.specs.Prelude.{◌≡◌, ℕ, Bool, List, Option, Some, None, Result, Ok, Err}
use Rattle.crash_disk.specs.Disk.{History, FaultPlan}
use Rattle.node_journal.specs.{Notes.{NotesState, Did}, declared.stop.Stop.{Stop}, declared.stop.Stop.TheVariants.{Closed, NoMemory, DeviceFault}}
use Rattle.node_rules.specs.{declared.refusal.WalletRefusal.{WalletRefusal}, declared.refusal.WalletRefusal.TheVariants.{Closed as RefusedClosed, NoMemory as RefusedMemory, DeviceFault as RefusedFault}, Wallet.{WalletRecords}}

-- a wallet: the disks of its notes and of its leaves, whether a device fault closed it, its records, and the digest
-- that it was opened with
pub record WalletState (D H : Type 0) : Type 0 where
  pub notes_disk : D
  pub leaves_disk : D
  pub closed : Bool
  pub records : WalletRecords
  pub hash : H

-- its notes, and its leaves, as those of a node; a fault of either disk closes both
abbrev pub notes_part : {D H : Type 0} → WalletState D H → NotesState D
notes_part wallet = record { disk = wallet.notes_disk; closed = wallet.closed; records = wallet.records.notes }

abbrev pub leaves_part : {D H : Type 0} → WalletState D H → NotesState D
leaves_part wallet = record { disk = wallet.leaves_disk; closed = wallet.closed; records = wallet.records.leaves }

-- what stopped a command that was refused for this: its definition says nothing of these three
abbrev pub stop_in : WalletRefusal → Option Stop
stop_in RefusedClosed = Some Closed
stop_in RefusedMemory = Some NoMemory
stop_in RefusedFault = Some DeviceFault
stop_in why = None

-- what stopped a command of a wallet, if anything did
abbrev pub wallet_stop : {T : Type 0} → Result T WalletRefusal → Option Stop
wallet_stop (Ok done) = None
wallet_stop (Err why) = stop_in why

-- over disks that tell their history, foretell their faults and count them
module _ {D H : Type 0} (told : D → Option History) (plan : D → Option FaultPlan) (faults : D → ℕ) where
  -- What a command did that by its definition adds this note, or none, and that was stopped so, or not: the leaves and
  -- their disk stay.
  pub record DidNote (added : Option (List ℕ)) (old : WalletState D H) (stop : Option Stop) (new : WalletState D H)
      : Type 0 where
    pub did : Did told plan faults added (notes_part old) stop (notes_part new)
    pub disk : new.leaves_disk ≡ old.leaves_disk
    pub leaves : new.records.leaves ≡ old.records.leaves
    pub hash : new.hash ≡ old.hash

  -- The same of a command that adds a leaf's record, or none: the notes and their disk stay.
  pub record DidLeaf (added : Option (List ℕ)) (old : WalletState D H) (stop : Option Stop) (new : WalletState D H)
      : Type 0 where
    pub did : Did told plan faults added (leaves_part old) stop (leaves_part new)
    pub disk : new.notes_disk ≡ old.notes_disk
    pub notes : new.records.notes ≡ old.records.notes
    pub hash : new.hash ≡ old.hash
