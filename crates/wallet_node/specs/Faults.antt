-- Which of a wallet's two disks met a device fault.
use Rattle.std.specs.Prelude.{◌≡◌, ◌⊎◌, ℕ, true, List, Option, Some, Err}
use Rattle.plasma_base.specs.Causes.{faults_after}
use Rattle.crash_disk.specs.Disk.{History, FaultPlan}
use Rattle.gate_journal.specs.{declared.refusal.JournalRefusal.{JournalRefusal}, declared.refusal.InitRefusal.{InitRefusal}}
use Rattle.node_journal.specs.{declared.stop.Stop.{Stop}, Begin.{BeginsPair}}
use Rattle.wallet_node.specs.{State.{WalletState, DidNote, DidLeaf}, Opening.{RefusesWallet}}

-- over disks that count their faults
module _ {D : Type 0} (faults : D → ℕ) where
  -- the notes' disk counted one fault and the leaves' disk none; or the leaves' disk one and the notes' disk none
  pub record MetByNotes (notes leaves new_notes new_leaves : D) : Type 0 where
    pub of_notes : faults new_notes ≡ faults_after (faults notes) true
    pub of_leaves : faults new_leaves ≡ faults leaves

  pub record MetByLeaves (notes leaves new_notes new_leaves : D) : Type 0 where
    pub of_notes : faults new_notes ≡ faults notes
    pub of_leaves : faults new_leaves ≡ faults_after (faults leaves) true

  abbrev pub MetByOne : D → D → D → D → Type 0
  MetByOne notes leaves new_notes new_leaves =
      MetByNotes notes leaves new_notes new_leaves ⊎ MetByLeaves notes leaves new_notes new_leaves

-- over disks that tell their history, foretell their faults and count them
module _ {D : Type 0} (H : Type 0) (told : D → Option History) (plan : D → Option FaultPlan) (faults : D → ℕ) where
  -- A command that a device fault stopped, and that was to add a note, met it on the notes' disk alone; one that was to
  -- add a leaf's record met it on the leaves' disk alone.
  abbrev pub NotesFaultsAreOfNotes : Type 0
  NotesFaultsAreOfNotes = (old new : WalletState D H) (added : Option (List ℕ))
      → DidNote told plan faults added old (Some Stop.DeviceFault) new
      → MetByNotes faults old.notes_disk old.leaves_disk new.notes_disk new.leaves_disk

  abbrev pub LeavesFaultsAreOfLeaves : Type 0
  LeavesFaultsAreOfLeaves = (old new : WalletState D H) (added : Option (List ℕ))
      → DidLeaf told plan faults added old (Some Stop.DeviceFault) new
      → MetByLeaves faults old.notes_disk old.leaves_disk new.notes_disk new.leaves_disk

-- An opening, or an init, that a device fault stopped met it on one of the disks alone.
module _ {D : Type 0} (told : D → Option History) (plan : D → Option FaultPlan) (faults : D → ℕ) where
  abbrev pub OpeningsFailOnOneDisk : Type 0
  OpeningsFailOnOneDisk = (dig : List ℕ → List ℕ) (notes leaves new_notes new_leaves : D)
      → RefusesWallet told plan faults dig notes leaves JournalRefusal.DeviceFault new_notes new_leaves
      → MetByOne faults notes leaves new_notes new_leaves

  abbrev pub InitsFailOnOneDisk : Type 0
  InitsFailOnOneDisk = (identity : List ℕ) (notes leaves new_notes new_leaves : D)
      → BeginsPair told plan faults told plan faults identity notes leaves (Err InitRefusal.DeviceFault) new_notes
      new_leaves
      → MetByOne faults notes leaves new_notes new_leaves
