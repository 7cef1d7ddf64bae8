-- The records of a node, and what its calls do to them and to their disk.
use Rattle.std.specs.Prelude.{◌≡◌, ◌≤◌, ℕ, Bool, true, false, List, [], ◌∷◌, ◌++◌, length, Option, Some, None, Result, Ok, Err}
use Rattle.plasma_base.specs.Causes.{faults_after}
use Rattle.crash_disk.specs.Disk.{Step, History, content, FaultPlan, LeavesOnly}
use Rattle.crash_disk.specs.Calls.{WhereTold, passed, failed_after, Made}
use Rattle.gate_journal.specs.Image.{most, spelled}
use Rattle.gate_journal.specs.Steps.{append_steps, open_steps}
use Rattle.gate_journal.specs.Journal.{KeepsWithOrWithout, IsSettled, RefusesOpen, is_device_fault}
use Rattle.gate_journal.specs.declared.refusal.JournalRefusal.{JournalRefusal}
use Rattle.node_journal.specs.declared.stop.Stop.{Stop}
use Rattle.node_journal.specs.declared.stop.Stop.TheVariants.{Closed, NoMemory, DeviceFault}

-- what callers see of a node's notes: the disk, whether a device fault closed them, and the records in order
pub record NotesState (D : Type 0) : Type 0 where
  pub disk : D
  pub closed : Bool
  pub records : List (List ℕ)

-- a node's notes, and the value of the role that they are of
pub record NotesAndRole (D R : Type 0) : Type 0 where
  pub notes : NotesState D
  pub role : R

-- a node that keeps notes alone, a watcher or an operator, and the digest that it was opened with
pub record NodeState (D H : Type 0) : Type 0 where
  pub notes : NotesState D
  pub hash : H

-- the device calls of an append behind these records
abbrev pub note_steps : List (List ℕ) → List ℕ → List ℕ → List Step
note_steps records body image = append_steps (length (spelled records)) body

-- each image of a crash at a moment of the call keeps the old records, or them and the new one
abbrev pub KeepsAtAnyMoment : List (List ℕ) → List ℕ → Option History → Option History → Type 0
KeepsAtAnyMoment records body old new =
    WhereTold old (λ before. WhereTold new (λ now. LeavesOnly before now (KeepsWithOrWithout records body)))

-- what stopped a call whose errors are stops
abbrev pub stopped_by : {T : Type 0} → Result T Stop → Option Stop
stopped_by (Ok done) = None
stopped_by (Err stop) = Some stop

-- over a disk that tells its history, foretells its faults and counts them
module _ {D : Type 0} (told : D → Option History) (plan : D → Option FaultPlan) (faults : D → ℕ) where
  -- A call that went through and added one record: all four device calls passed, and each image of a crash now keeps
  -- it.
  pub record Added (body : List ℕ) (old new : NotesState D) : Type 0 where
    pub was_open : old.closed ≡ false
    pub fits : length body ≤ most
    pub made : Made told plan (note_steps old.records body) 4 passed old.disk new.disk
    pub any_moment : KeepsAtAnyMoment old.records body (told old.disk) (told new.disk)
    pub count : faults new.disk ≡ faults old.disk
    pub is_open : new.closed ≡ false
    pub records : new.records ≡ old.records ++ body ∷ []
    pub settled : WhereTold (told new.disk) (λ now. IsSettled now new.records)

  -- A call that was to add one record and met a device fault: one of the four device calls failed, it closed the notes,
  -- and the records in memory stay.
  pub record AddFailed (body : List ℕ) (old new : NotesState D) : Type 0 where
    pub was_open : old.closed ≡ false
    pub fits : length body ≤ most
    pub passed : ℕ
    pub made : Made told plan (note_steps old.records body) 4 (failed_after passed) old.disk new.disk
    pub any_moment : KeepsAtAnyMoment old.records body (told old.disk) (told new.disk)
    pub count : faults new.disk ≡ faults_after (faults old.disk) true
    pub is_closed : new.closed ≡ true
    pub records : new.records ≡ old.records

  -- what a call did that wasn't stopped: it added this record, or none
  abbrev pub Adds : Option (List ℕ) → NotesState D → NotesState D → Type 0
  Adds None old new = (old.closed ≡ false) × (new ≡ old)
  Adds (Some body) old new = Added body old new

  -- what a call did that a device fault stopped: only a call that is to add a record meets one
  abbrev pub Fails : Option (List ℕ) → NotesState D → NotesState D → Type 0
  Fails None old new = ⊥
  Fails (Some body) old new = AddFailed body old new

  -- What a call did that by its definition adds this record, or none, and that was stopped so, or not.
  abbrev pub Did : Option (List ℕ) → NotesState D → Option Stop → NotesState D → Type 0
  Did added old None new = Adds added old new
  Did added old (Some DeviceFault) new = Fails added old new
  Did added old (Some Closed) new = (old.closed ≡ true) × (new ≡ old)
  Did added old (Some NoMemory) new = (old.closed ≡ false) × (new ≡ old)

  -- An opening that went through: all three device calls passed, and the records are those that the role's reader of
  -- images gives.
  pub record Opened (read : List ℕ → Result (List (List ℕ)) ℕ) (old : D) (new : NotesState D) : Type 0 where
    pub kept : WhereTold (told old) (λ before. read (content before) ≡ Ok new.records)
    pub made : Made told plan open_steps 3 passed old new.disk
    pub count : faults new.disk ≡ faults old
    pub is_open : new.closed ≡ false
    pub settled : WhereTold (told new.disk) (λ now. IsSettled now new.records)

  -- An opening that was refused, by the role's reader of images or before it.
  pub record RefusesRole (read : List ℕ → Result (List (List ℕ)) ℕ) (old : D) (why : JournalRefusal) (new : D)
      : Type 0 where
    pub refused : RefusesOpen read told plan old why new
    pub count : faults new ≡ faults_after (faults old) (is_device_fault why)
