-- The disks of a node that is somewhere, as they are handed back.
use Rattle.node_runs.proofs.Words.{◌≡◌, ◌⊎◌, ℕ, false, List, Option, Some, None, option_map, refl, subst, inl, inr, History, FaultPlan, RootCall, IsSettled, NotesState, Stop, Outcome, NotesAt, with_note, StaysAt, IsNotesAt, FailedAt, Parts, of_each, OfLeaves, with_effect, PartFails, NodeAt, Commands, outcome_at, IsNodeAt, StoppedAt, Status, Keeps, MayKeep, opened_at, KeepsNode, NodeFailed, Outside, RunsSession, node_rules, node_found, NodeSession}
use Rattle.crash_disk.specs.Calls.{WhereTold}
use Rattle.node_journal.specs.declared.stop.Stop.TheVariants.{NoMemory, DeviceFault}
use Rattle.node_runs.proofs.SessionLaws.{in-words}

-- the disks of a node
abbrev pub disks_of : {D : Type 0} → Parts (NotesState D) → Parts D
disks_of node = of_each (λ notes. notes.disk) node

-- what holds of leaves holds of their disk in other words
leaves-hold : {D : Type 0} (Holds : NotesAt → NotesState D → Type 0) (More : NotesAt → D → Type 0)
    → ((at : NotesAt) (leaves : NotesState D) → Holds at leaves → More at leaves.disk)
    → (at : Option NotesAt) (leaves : Option (NotesState D)) → OfLeaves Holds at leaves
    → OfLeaves More at (option_map (λ notes. notes.disk) leaves)
leaves-hold Holds More more None None is = tt
leaves-hold Holds More more (Some at) (Some leaves) is = more at leaves is
leaves-hold Holds More more None (Some leaves) is = absurd is
leaves-hold Holds More more (Some at) None is = absurd is

-- over disks that tell their history and count their faults
module _ {D : Type 0} (told : D → Option History) (faults : D → ℕ) where
  stays-keeps : (at : NotesAt) (notes : NotesState D) → StaysAt told faults at notes → Keeps told faults at notes.disk
  stays-keeps at notes is = record {
    told_is = is.told_is;
    faults_are = is.faults_are;
    settled =
        subst (λ records. WhereTold (told notes.disk) (λ now. IsSettled now records)) is.records_are is.settled;
  }

  part-failed : (added : Option (List ℕ)) (at : Option NotesAt) (part : Option (NotesState D))
      → PartFails (FailedAt told faults) added at part
      → PartFails (MayKeep told faults) added at (option_map (λ notes. notes.disk) part)
  part-failed None at part never = absurd never
  part-failed (Some body) None part never = absurd never
  part-failed (Some body) (Some at) None never = absurd never
  part-failed (Some body) (Some at) (Some part) is = record {
    passed = is.passed;
    few = is.few;
    told_is = is.told_is;
    any_moment = is.any_moment;
    faults_are = is.faults_are;
  }

  pub node-keeps : (at : Parts NotesAt) (node : Parts (NotesState D)) → IsNodeAt told faults at node
      → KeepsNode told faults at (disks_of node)
  node-keeps at node is = (
    stays-keeps at.notes node.notes is.0.there,
    leaves-hold (IsNotesAt told faults) (Keeps told faults) (λ at leaves there. stays-keeps at leaves there.there)
        at.leaves node.leaves is.1,
  )

  node-failed : (outcome : Outcome) (at : Parts NotesAt) (node : Parts (NotesState D))
      → StoppedAt told faults outcome at DeviceFault node → NodeFailed told faults outcome at (disks_of node)
  node-failed outcome at node (inl (failed, there)) = inl (
    part-failed outcome.note (Some at.notes) (Some node.notes) failed,
    leaves-hold (StaysAt told faults) (Keeps told faults) stays-keeps at.leaves node.leaves there,
  )
  node-failed outcome at node (inr (there, failed)) = inr (
    stays-keeps (with_note at.notes outcome.note) node.notes there,
    part-failed outcome.leaf at.leaves node.leaves failed,
  )

  pub node-starved : (outcome : Outcome) (at : Parts NotesAt) (node : Parts (NotesState D))
      → StoppedAt told faults outcome at NoMemory node
      → KeepsNode told faults at (disks_of node)
      ⊎ KeepsNode told faults (with_effect with_note at outcome) (disks_of node)
  node-starved outcome at node (inl is) = inl (node-keeps at node is)
  node-starved outcome at node (inr is) = inr (node-keeps (with_effect with_note at outcome) node is)

  -- notes that were just opened
  pub opened-there : (notes : NotesState D) → notes.closed ≡ false
      → WhereTold (told notes.disk) (λ now. IsSettled now notes.records)
      → IsNotesAt told faults (opened_at told faults notes) notes
  opened-there notes is_open settled = record {
    is_open = is_open;
    there = record { records_are = refl; told_is = refl; faults_are = refl; settled = settled };
  }

-- the session of a node in memory, of which this is known where commands left it, or where one was stopped, as that of
-- a node whose disks are handed back
module _ {D : Type 0} (told : D → Option History) (plan : D → Option FaultPlan) (faults : D → ℕ)
    (dig : List ℕ → List ℕ) {L : Type 0} (commands : Commands L) (opened node : Parts (NotesState D))
    (Left : NodeAt NotesAt → Type 0) (Stopped : List RootCall → NodeAt NotesAt → L → Stop → Type 0)
    (left : (at : NodeAt NotesAt) → Left at → IsNodeAt told faults at.kept node)
    (stopped : (log : List RootCall) (at : NodeAt NotesAt) (line : L) (stop : Stop) → Stopped log at line stop
    → StoppedAt told faults (outcome_at commands log at line) at.kept stop node) where
  pub handed-back : (outside : Outside) (failed : Type 0) (status : Status)
      → RunsSession (node_rules told plan faults dig commands opened) commands.command_in
      (node_found told plan faults dig opened) Left (λ log at line. Stopped log at line DeviceFault)
      (λ log at line. Stopped log at line NoMemory) outside failed status
      → NodeSession told plan faults dig commands opened (disks_of node) outside failed status
  handed-back outside failed status runs =
      in-words _ _ _ _ (λ at. KeepsNode told faults at.kept (disks_of node))
      _ (λ log at line. NodeFailed told faults (outcome_at commands log at line) at.kept (disks_of node))
      _ (λ log at line. KeepsNode told faults (with_effect with_note at.kept (outcome_at commands log at line))
      (disks_of node))
      (λ at is. node-keeps told faults at.kept node (left at is))
      (λ log at line is.
      node-failed told faults (outcome_at commands log at line) at.kept node (stopped log at line DeviceFault is))
      (λ log at line is.
      node-starved told faults (outcome_at commands log at line) at.kept node (stopped log at line NoMemory is))
      outside failed status runs
