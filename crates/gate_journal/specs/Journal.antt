-- A journal on a disk, and what its opening and its appends do.
use Rattle.std.specs.Prelude.{◌≡◌, ◌≢◌, ◌<◌, ◌≤◌, ◌⊎◌, ℕ, ◌+◌, ◌-◌, max, Bool, true, false, ◌&&◌, nat_lt, nat_le, if◌then◌else◌, List, [], ◌∷◌, ◌++◌, length, Option, Some, Result, Ok, Err}
use Rattle.crash_disk.specs.Disk.{History, content, unsynced_ranges, MayLeave, FaultPlan}
use Rattle.crash_disk.specs.Calls.{WhereTold, passed, failed_after, stopped_after, Made}
use Rattle.gate_journal.specs.Image.{most, spelled, Spells, kept_records}
use Rattle.gate_journal.specs.Steps.{append_steps, open_steps}
use Rattle.gate_journal.specs.declared.refusal.JournalRefusal.{JournalRefusal}
use Rattle.gate_journal.specs.declared.refusal.JournalRefusal.TheVariants.{DeviceFault, NoMemory, NotJournal, RecordTooLong, Closed}

-- what callers see of a journal: its disk, whether a device fault closed it, the place of the closed gate behind the
-- records, and the room for further bodies
pub record JournalState (D : Type 0) : Type 0 where
  pub disk : D
  pub closed : Bool
  pub gate : ℕ
  pub spare_bodies : ℕ
  pub spare_bytes : ℕ

-- the image keeps these records
abbrev pub Keeps : List (List ℕ) → List ℕ → Type 0
Keeps records image = kept_records image ≡ Some records

-- the image keeps them, or them and one more
abbrev pub KeepsWithOrWithout : List (List ℕ) → List ℕ → List ℕ → Type 0
KeepsWithOrWithout records body image = Keeps records image ⊎ Keeps (records ++ body ∷ []) image

-- The disk holds these records, nothing is written since the last sync that succeeded, and each image of a crash now
-- keeps the records.
pub record IsSettled (history : History) (records : List (List ℕ)) : Type 0 where
  pub kept : Spells (content history) records
  pub read : Keeps records (content history)
  pub synced : unsynced_ranges history ≡ []
  pub images : (image : List ℕ) → MayLeave history image → Keeps records image

-- a refusal that is a device fault
abbrev pub is_device_fault : JournalRefusal → Bool
is_device_fault DeviceFault = true
is_device_fault why = false

-- the answer is a device fault
abbrev pub is_fault : {T : Type 0} → Result T JournalRefusal → Bool
is_fault (Ok done) = false
is_fault (Err why) = is_device_fault why

-- a journal that was just opened over these records: its gate is behind them, and it has no room for bodies
abbrev pub fresh_journal : {D : Type 0} → D → List (List ℕ) → JournalState D
fresh_journal disk records =
    record { disk = disk; closed = false; gate = length (spelled records); spare_bodies = 0; spare_bytes = 0 }

-- What an opening did that was refused, by a reader of images: of its three device calls one failed; or, for want of
-- memory, no other was made after none, two or three; or all passed, and the reader refused the image at that place.
abbrev pub RefusesOpen : {D T : Type 0} → (List ℕ → Result T ℕ) → (D → Option History) → (D → Option FaultPlan) → D
    → JournalRefusal → D → Type 0
RefusesOpen read told plan old DeviceFault new = (count : ℕ) × Made told plan open_steps 3 (failed_after count) old new
RefusesOpen read told plan old NoMemory new =
    (count : ℕ) × (count ≢ 1) × Made told plan open_steps 3 (stopped_after count) old new
RefusesOpen read told plan old (NotJournal place) new =
    Made told plan open_steps 3 passed old new × WhereTold (told old) (λ before. read (content before) ≡ Err place)
RefusesOpen read told plan old why new = ⊥

-- there is room for a body of so many bytes
abbrev pub has_spare : {D : Type 0} → JournalState D → ℕ → Bool
has_spare journal bytes = nat_lt 0 journal.spare_bodies && nat_le bytes journal.spare_bytes

-- the journal with room for at least so many bodies of so many bytes, over this disk
abbrev pub with_spare : {D : Type 0} → ℕ → ℕ → D → JournalState D → JournalState D
with_spare bodies bytes disk journal = record journal {
  disk = disk;
  spare_bodies = max bodies journal.spare_bodies;
  spare_bytes = max bytes journal.spare_bytes;
}

-- the journal with one more record behind its gate, over this disk: one spare body less, where there was room for it
abbrev pub with_record : {D : Type 0} → List ℕ → D → JournalState D → JournalState D
with_record body disk journal = record journal {
  disk = disk;
  gate = journal.gate + (5 + length body);
  spare_bodies = if has_spare journal (length body) then journal.spare_bodies - 1 else journal.spare_bodies;
  spare_bytes = max (length body) journal.spare_bytes;
}

-- an append that went through: all its four device calls passed
pub record Appended {D : Type 0} (told : D → Option History) (plan : D → Option FaultPlan) (body : List ℕ)
    (old new : JournalState D) : Type 0 where
  pub was_open : old.closed ≡ false
  pub fits : length body ≤ most
  pub made : Made told plan (λ image. append_steps old.gate body) 4 passed old.disk new.disk
  pub journal : new ≡ with_record body new.disk old

-- an append that met a device fault: it closed the journal
pub record AppendFailed {D : Type 0} (told : D → Option History) (plan : D → Option FaultPlan) (body : List ℕ)
    (old new : JournalState D) : Type 0 where
  pub was_open : old.closed ≡ false
  pub fits : length body ≤ most
  pub count : ℕ
  pub made : Made told plan (λ image. append_steps old.gate body) 4 (failed_after count) old.disk new.disk
  pub is_closed : new.closed ≡ true
  pub gate : new.gate ≡ old.gate

-- what an append did that was answered so, and when
abbrev pub Appends : {D : Type 0} → (D → Option History) → (D → Option FaultPlan) → List ℕ → JournalState D
    → Result Unit JournalRefusal → JournalState D → Type 0
Appends told plan body old (Ok done) new = Appended told plan body old new
Appends told plan body old (Err DeviceFault) new = AppendFailed told plan body old new
Appends told plan body old (Err Closed) new = (old.closed ≡ true) × (new ≡ old)
Appends told plan body old (Err (RecordTooLong count)) new =
    (old.closed ≡ false) × (most < length body) × (count ≡ length body) × (new ≡ old)
Appends told plan body old (Err NoMemory) new =
    (old.closed ≡ false) × (length body ≤ most) × (has_spare old (length body) ≡ false) × (new ≡ old)
Appends told plan body old (Err why) new = ⊥
