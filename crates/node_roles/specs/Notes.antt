-- Where commands leave notes, or the leaves of a key, or where one was stopped: the records, and what their disk tells.
use Rattle.std.specs.Prelude.{◌≡◌, ℕ, ◌<◌, true, false, List, [], ◌∷◌, ◌++◌, length, Option, Some, None, option_map}
use Rattle.plasma_base.specs.Causes.{faults_after}
use Rattle.crash_disk.specs.Disk.{History}
use Rattle.crash_disk.specs.Calls.{Course, passed, failed_after, after_course, WhereTold}
use Rattle.gate_journal.specs.Image.{spelled}
use Rattle.gate_journal.specs.Journal.{IsSettled}
use Rattle.gate_journal.specs.Steps.{append_steps}
use Rattle.node_journal.specs.Notes.{NotesState, KeepsAtAnyMoment}

-- the records of notes, what their disk tells, and its count of faults
pub record NotesAt : Type 0 where
  pub records : List (List ℕ)
  pub told : Option History
  pub faults : ℕ

-- what the disk tells behind the device calls of an append of this record, which went so
abbrev pub told_after : Course → NotesAt → List ℕ → Option History
told_after course at body = option_map (after_course course (append_steps (length (spelled at.records)) body)) at.told

-- with this record behind the others, whose device calls all passed; or with none more
abbrev pub with_note : NotesAt → Option (List ℕ) → NotesAt
with_note at None = at
with_note at (Some body) =
    record { records = at.records ++ body ∷ []; told = told_after passed at body; faults = at.faults }

-- over a disk that tells its history and counts its faults
module _ {D : Type 0} (told : D → Option History) (faults : D → ℕ) where
  -- notes that were there and weren't asked, whether they are open or not: each image of a crash now keeps the records
  pub record StaysAt (at : NotesAt) (notes : NotesState D) : Type 0 where
    pub records_are : notes.records ≡ at.records
    pub told_is : told notes.disk ≡ at.told
    pub faults_are : faults notes.disk ≡ at.faults
    pub settled : WhereTold (told notes.disk) (λ now. IsSettled now notes.records)

  -- open notes are there
  pub record IsNotesAt (at : NotesAt) (notes : NotesState D) : Type 0 where
    pub is_open : notes.closed ≡ false
    pub there : StaysAt at notes

  -- Notes that were there met a device fault in one of the four calls of the append of this record, which closed them.
  -- The records in memory stay, and each image of a crash at a moment of it keeps them, or them and the new one.
  pub record FailedAt (body : List ℕ) (at : NotesAt) (notes : NotesState D) : Type 0 where
    pub is_closed : notes.closed ≡ true
    pub records_are : notes.records ≡ at.records
    pub passed : ℕ
    pub few : passed < 4
    pub told_is : told notes.disk ≡ told_after (failed_after passed) at body
    pub any_moment : KeepsAtAnyMoment at.records body at.told (told notes.disk)
    pub faults_are : faults notes.disk ≡ faults_after at.faults true
