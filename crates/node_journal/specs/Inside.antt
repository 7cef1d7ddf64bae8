-- What notes keep, and what the calls inside their calls do.
use Rattle.std.specs.Prelude.{◌≡◌, ◌≢◌, ℕ, Bool, true, false, List, [], length, Option, Some, None, Result, Ok, Err}
use Rattle.crash_disk.specs.Disk.{asks_length, History, content, FaultPlan}
use Rattle.crash_disk.specs.Calls.{WhereTold, passed, failed_after, stopped_after, Called, Made}
use Rattle.gate_journal.specs.Image.{spelled, kept_records}
use Rattle.gate_journal.specs.Steps.{append_steps, open_steps}
use Rattle.gate_journal.specs.Make.{is_made, make_steps}
use Rattle.gate_journal.specs.Journal.{JournalState, Keeps, IsSettled, fresh_journal}
use Rattle.gate_journal.specs.declared.refusal.JournalRefusal.{JournalRefusal}
use Rattle.gate_journal.specs.declared.refusal.JournalRefusal.TheVariants.{AlreadyMade, NotJournal, DeviceFault, Closed, NoMemory}
use Rattle.gate_journal.specs.declared.refusal.InitRefusal.{InitRefusal}
use Rattle.gate_journal.specs.declared.refusal.InitRefusal.TheVariants.{AlreadyMade as InitMade, DeviceFault as InitFault, NoMemory as InitNoMemory}
use Rattle.node_journal.specs.declared.stop.Stop.{Stop}
use Rattle.node_journal.specs.declared.stop.Stop.TheVariants.{Closed as StopClosed, NoMemory as StopNoMemory, DeviceFault as StopFault}
use Rattle.node_journal.specs.Role.{Kinds, are_of, of_kinds}

-- the records are of the role, the journal's gate is behind them, and while no fault closed it the disk keeps them
pub record IsSound (kinds : Kinds) (told : Option History) (closed : Bool) (gate : ℕ) (records : List (List ℕ))
    : Type 0 where
  pub role : are_of kinds records ≡ true
  pub place : gate ≡ length (spelled records)
  pub settled : closed ≡ false → WhereTold told (λ now. IsSettled now records)

-- the records are of these kinds, or why they aren't: the place; or want of memory
abbrev pub IsRoleRefusal : Kinds → List (List ℕ) → Option JournalRefusal → Type 0
IsRoleRefusal kinds records None = are_of kinds records ≡ true
IsRoleRefusal kinds records (Some (NotJournal place)) = of_kinds kinds records ≡ Err place
IsRoleRefusal kinds records (Some NoMemory) = Unit {0}
IsRoleRefusal kinds records (Some why) = ⊥

-- what a journal's refusal stops a call by
abbrev pub stop_of : JournalRefusal → Stop
stop_of DeviceFault = StopFault
stop_of Closed = StopClosed
stop_of why = StopNoMemory

-- what a journal's refusal is for an init that stands on an append
abbrev pub init_refusal_of : JournalRefusal → InitRefusal
init_refusal_of DeviceFault = InitFault
init_refusal_of why = InitNoMemory

-- the length of what is there, where a making was refused for that
abbrev pub length_found : JournalRefusal → Result ℕ InitRefusal
length_found (AlreadyMade count) = Ok count
length_found DeviceFault = Err InitFault
length_found why = Err InitNoMemory

-- what an opening's refusal is for an init over an image of this length
abbrev pub open_refusal_of : ℕ → JournalRefusal → InitRefusal
open_refusal_of count (NotJournal place) = InitMade count
open_refusal_of count DeviceFault = InitFault
open_refusal_of count why = InitNoMemory

-- over a disk that tells its history and foretells its faults
module _ {D : Type 0} (told : D → Option History) (plan : D → Option FaultPlan) where
  -- a question for the length that was answered so
  abbrev pub AsksLength : D → Result ℕ InitRefusal → D → Type 0
  AsksLength old (Ok count) new = Called told plan asks_length false old new
  AsksLength old (Err InitFault) new = Called told plan asks_length true old new
  AsksLength old (Err InitNoMemory) new = new ≡ old
  AsksLength old (Err why) new = ⊥

  -- What a making over an image did, where a journal that is there is taken for made: the length of what was there is
  -- answered.
  abbrev pub FindsOver : List ℕ → D → Result ℕ InitRefusal → D → Type 0
  FindsOver image old (Ok count) new =
      (is_made image ≡ true → count ≡ length image)
      × Made told plan make_steps (length (make_steps image)) passed old new
  FindsOver image old (Err InitFault) new =
      (count : ℕ) × Made told plan make_steps (length (make_steps image)) (failed_after count) old new
  FindsOver image old (Err InitNoMemory) new = new ≡ old
  FindsOver image old (Err why) new = ⊥

  -- what an append of an identity to an empty journal did that was answered so
  abbrev pub AppendsIdentity : List ℕ → D → Result Unit InitRefusal → D → Type 0
  AppendsIdentity identity old (Ok done) new = Made told plan (λ image. append_steps 4 identity) 4 passed old new
  AppendsIdentity identity old (Err InitFault) new =
      (count : ℕ) × Made told plan (λ image. append_steps 4 identity) 4 (failed_after count) old new
  AppendsIdentity identity old (Err InitNoMemory) new = new ≡ old
  AppendsIdentity identity old (Err why) new = ⊥

  -- an opening of a journal without records that went through
  pub record OpensEmpty (faults : D → ℕ) (old : D) (journal : JournalState D) : Type 0 where
    pub kept : WhereTold (told old) (λ before. Keeps [] (content before))
    pub made : Made told plan open_steps 3 passed old journal.disk
    pub count : faults journal.disk ≡ faults old
    pub is_fresh : journal ≡ fresh_journal journal.disk []
    pub settled : WhereTold (told journal.disk) (λ now. IsSettled now [])

  -- what such an opening did that was refused, over an image, where this length is answered for one with records
  abbrev pub RefusesEmptyOver : List ℕ → ℕ → D → InitRefusal → D → Type 0
  RefusesEmptyOver image count old (InitMade answered) new =
      (answered ≡ count) × (kept_records image ≢ Some []) × Made told plan open_steps 3 passed old new
  RefusesEmptyOver image count old InitFault new =
      (made : ℕ) × Made told plan open_steps 3 (failed_after made) old new
  RefusesEmptyOver image count old InitNoMemory new =
      (made : ℕ) × Made told plan open_steps 3 (stopped_after made) old new
