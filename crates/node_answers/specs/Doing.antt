-- What a command did to a node and its disks, by how it was answered.
use Rattle.std.specs.Prelude.{◌≡◌, ◌⊎◌, ℕ, List, Option, Some, None, Result}
use Rattle.crash_disk.specs.Disk.{History, FaultPlan}
use Rattle.node_journal.specs.Notes.{NotesState, Did}
use Rattle.node_journal.specs.declared.stop.Stop.{Stop}
use Rattle.node_journal.specs.declared.stop.Stop.TheVariants.{DeviceFault}
use Rattle.wallet_node.specs.State.{WalletState}
use Rattle.node_deeds.specs.WalletOrders.{DidEither}
use Rattle.node_sessions.specs.declared.said.Said.{Said}
use Rattle.node_answers.specs.Answers.{StopsIn}

-- over disks that tell their history, foretell their faults and count them
module _ {D : Type 0} (told : D → Option History) (plan : D → Option FaultPlan) (faults : D → ℕ) where
  -- what a command did to a node's notes that adds this one, or none, and was answered so
  abbrev pub DidNotes : Option (List ℕ) → NotesState D → Result Said Stop → NotesState D → Type 0
  DidNotes added old result new = (stop : Option Stop) × Did told plan faults added old stop new × StopsIn result stop

  -- what one did to a wallet that adds this leaf's record, or else this note, or neither
  abbrev pub DidWallet : {H : Type 0} → Option (List ℕ) → Option (List ℕ) → WalletState D H → Result Said Stop
      → WalletState D H → Type 0
  DidWallet leaf note old result new =
      (stop : Option Stop) × DidEither told plan faults leaf note old stop new × StopsIn result stop

  -- What a command did to an operator and its desk that adds this note and then this leaf's record, or one of them, or
  -- neither. A fault of the operator's disk comes before the desk is asked, and one of the desk's behind the note. What
  -- else stops it, in either, changes nothing.
  abbrev pub DidEach : Option (List ℕ) → Option (List ℕ) → NotesState D → NotesState D → Option Stop → NotesState D
      → NotesState D → Type 0
  DidEach note leaf old desk None new after =
      Did told plan faults note old None new × Did told plan faults leaf desk None after
  DidEach note leaf old desk (Some DeviceFault) new after =
      (Did told plan faults note old (Some DeviceFault) new × (after ≡ desk))
      ⊎ (Did told plan faults note old None new × Did told plan faults leaf desk (Some DeviceFault) after)
  DidEach note leaf old desk (Some why) new after =
      (new ≡ old) × (after ≡ desk)
      × (Did told plan faults note old (Some why) new ⊎ Did told plan faults leaf desk (Some why) after)

  -- what one did to an operator and its desk, and was answered so
  abbrev pub DidDesk : Option (List ℕ) → Option (List ℕ) → NotesState D → NotesState D → Result Said Stop
      → NotesState D → NotesState D → Type 0
  DidDesk note leaf old desk result new after =
      (stop : Option Stop) × DidEach note leaf old desk stop new after × StopsIn result stop
