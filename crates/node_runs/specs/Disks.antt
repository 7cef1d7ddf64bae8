-- Where a run leaves a node's disks.
use Rattle.std.specs.Prelude.{◌≡◌, ℕ, ◌<◌, true, List, Option}
use Rattle.plasma_base.specs.Causes.{faults_after}
use Rattle.crash_disk.specs.{Disk.{History}, Calls.{WhereTold, failed_after}}
use Rattle.gate_journal.specs.Journal.{IsSettled}
use Rattle.node_journal.specs.{Notes.{NotesState, KeepsAtAnyMoment}, Parts.{Parts, of_each, OfEach}}
use Rattle.node_answers.specs.Answers.{Outcome}
use Rattle.node_roles.specs.{Notes.{NotesAt, told_after}, Parts.{EachFails}}

-- over disks that tell their history and count their faults
module _ {D : Type 0} (told : D → Option History) (faults : D → ℕ) where
  -- The disk of these notes is handed back: the device calls that it tells are theirs, and each image of a crash now
  -- spells their records.
  pub record Keeps (at : NotesAt) (disk : D) : Type 0 where
    pub told_is : told disk ≡ at.told
    pub faults_are : faults disk ≡ at.faults
    pub settled : WhereTold (told disk) (λ now. IsSettled now at.records)

  -- The disk of these notes is handed back behind a device fault in one of the four calls of the append of this record:
  -- each image of a crash at a moment since keeps the records, or them and the new one.
  pub record MayKeep (body : List ℕ) (at : NotesAt) (disk : D) : Type 0 where
    pub passed : ℕ
    pub few : passed < 4
    pub told_is : told disk ≡ told_after (failed_after passed) at body
    pub any_moment : KeepsAtAnyMoment at.records body at.told (told disk)
    pub faults_are : faults disk ≡ faults_after at.faults true

  -- notes that were just opened, as what commands come to; and a node
  abbrev pub opened_at : NotesState D → NotesAt
  opened_at notes = record { records = notes.records; told = told notes.disk; faults = faults notes.disk }

  abbrev pub node_opened : Parts (NotesState D) → Parts NotesAt
  node_opened node = of_each opened_at node

  -- the disks of a node are handed back; and behind a device fault of a command of this outcome
  abbrev pub KeepsNode : Parts NotesAt → Parts D → Type 0
  KeepsNode at disks = OfEach Keeps at disks

  abbrev pub NodeFailed : Outcome → Parts NotesAt → Parts D → Type 0
  NodeFailed outcome at disks = EachFails Keeps MayKeep outcome at disks
