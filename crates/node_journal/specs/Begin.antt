-- The beginning of a node's journal, or of an empty one.
use Rattle.std.specs.Prelude.{◌≡◌, ◌<◌, ◌≤◌, ◌⊎◌, ℕ, Bool, true, false, nat_lt, if◌then◌else◌, List, [], ◌∷◌, ◌++◌, length, Option, Some, None, Result, Ok, Err}
use Rattle.plasma_base.specs.Causes.{faults_after}
use Rattle.crash_disk.specs.Disk.{Step, asks_length, History, content, FaultPlan}
use Rattle.crash_disk.specs.Calls.{WhereTold, passed, failed_after, stopped_after, Called, Made}
use Rattle.gate_journal.specs.Image.{kept_records}
use Rattle.gate_journal.specs.Journal.{JournalState, IsSettled, fresh_journal}
use Rattle.gate_journal.specs.Steps.{append_steps, open_steps}
use Rattle.gate_journal.specs.Make.{empty, is_made, make_steps}
use Rattle.gate_journal.specs.declared.refusal.InitRefusal.{InitRefusal}
use Rattle.gate_journal.specs.declared.refusal.InitRefusal.TheVariants.{AlreadyMade, DeviceFault, NoMemory}

-- an image of so many bytes, of which these records are read, can't be begun: it spells one or more, or it spells no
-- list and has more than five bytes
abbrev pub has_content : ℕ → Option (List (List ℕ)) → Bool
has_content count None = nat_lt 5 count
has_content count (Some []) = false
has_content count (Some (body ∷ bodies)) = true

abbrev pub is_taken : List ℕ → Bool
is_taken image = has_content (length image) (kept_records image)

-- the image after the making of a journal that is already there or is made
abbrev pub image_made : List ℕ → List ℕ
image_made image = if is_made image then image else empty

-- the device calls up to an open journal: an empty one is made where there is none, and what is there is opened
abbrev pub journal_steps : List ℕ → List Step
journal_steps image = make_steps image ++ open_steps (image_made image)

-- those of an init: where the journal is empty the identity is appended
abbrev pub init_steps : List ℕ → List ℕ → List Step
init_steps identity image = journal_steps image ++ (if is_taken image then [] else append_steps 4 identity)

-- the refusal, or the answer, is a device fault
abbrev pub is_fault_refusal : InitRefusal → Bool
is_fault_refusal DeviceFault = true
is_fault_refusal why = false

abbrev pub is_init_fault : {T : Type 0} → Result T InitRefusal → Bool
is_init_fault (Ok done) = false
is_init_fault (Err why) = is_fault_refusal why

-- over a disk that tells its history and foretells its faults
module _ {D : Type 0} (told : D → Option History) (plan : D → Option FaultPlan) where
  -- What an init over an image did that makes these device calls and was answered so, and when: all its calls passed,
  -- and the image wasn't taken, or it was; the first that failed ended them; or want of memory did.
  abbrev pub InitsOver : (List ℕ → List Step) → List ℕ → D → Result Unit InitRefusal → D → Type 0
  InitsOver steps image old (Ok done) new =
      (is_taken image ≡ false) × Made told plan steps (length (steps image)) passed old new
  InitsOver steps image old (Err (AlreadyMade count)) new =
      (is_taken image ≡ true) × (count ≡ length image) × Made told plan steps (length (steps image)) passed old new
  InitsOver steps image old (Err DeviceFault) new =
      (count : ℕ) × Made told plan steps (length (steps image)) (failed_after count) old new
  InitsOver steps image old (Err NoMemory) new =
      (count : ℕ) × Made told plan steps (length (steps image)) (stopped_after count) old new

  -- what an init did, where the disk tells what it holds
  abbrev pub Inits : (List ℕ → List Step) → D → Result Unit InitRefusal → D → Type 0
  Inits steps old result new = WhereTold (told old) (λ before. InitsOver steps (content before) old result new)

  -- What an init over an image did that made or opened its journal and was stopped behind it: a device call of the
  -- append was the first that failed, or memory ran out before the append made any.
  abbrev pub StopsBehindOver : List ℕ → List ℕ → D → InitRefusal → D → Type 0
  StopsBehindOver identity image old DeviceFault new =
      (count : ℕ) × (is_taken image ≡ false) × (length (journal_steps image) ≤ count)
      × Made told plan (init_steps identity) (length (init_steps identity image)) (failed_after count) old new
  StopsBehindOver identity image old NoMemory new =
      (is_taken image ≡ false)
      × Made told plan (init_steps identity) (length (init_steps identity image))
      (stopped_after (length (journal_steps image))) old new
  StopsBehindOver identity image old why new = ⊥

  -- and counts them
  module _ (faults : D → ℕ) where
    -- An empty journal that was made or opened, and is open: each image of a crash now spells no record.
    pub record BeginsEmpty (old : D) (journal : JournalState D) : Type 0 where
      pub inits : Inits journal_steps old (Ok tt) journal.disk
      pub count : faults journal.disk ≡ faults old
      pub is_fresh : journal ≡ fresh_journal journal.disk []
      pub settled : WhereTold (told journal.disk) (λ now. IsSettled now [])

    -- no journal was made or opened
    pub record RefusesEmpty (old : D) (why : InitRefusal) (new : D) : Type 0 where
      pub inits : Inits journal_steps old (Err why) new
      pub count : faults new ≡ faults_after (faults old) (is_fault_refusal why)

    -- an init whose device calls all passed, over an image that wasn't taken
    pub record PassesInit (steps : List ℕ → List Step) (old new : D) : Type 0 where
      pub inits : Inits steps old (Ok tt) new
      pub count : faults new ≡ faults old

    -- an init that made or opened its journal and was stopped behind it
    pub record StopsBehind (identity : List ℕ) (old : D) (why : InitRefusal) (new : D) : Type 0 where
      pub stopped : WhereTold (told old) (λ before. StopsBehindOver identity (content before) old why new)
      pub count : faults new ≡ faults_after (faults old) (is_fault_refusal why)

    -- an init that was stopped so, or whose image was taken
    pub record StopsInit (steps : List ℕ → List Step) (old : D) (why : InitRefusal) (new : D) : Type 0 where
      pub inits : Inits steps old (Err why) new
      pub count : faults new ≡ faults_after (faults old) (is_fault_refusal why)

    -- the disk was asked for its length, and for nothing else
    pub record IsAsked (old new : D) : Type 0 where
      pub called : Called told plan asks_length false old new
      pub count : faults new ≡ faults old

    -- it wasn't told: the call failed, or memory ran out before it
    abbrev pub IsNotTold : D → InitRefusal → D → Type 0
    IsNotTold old DeviceFault new =
        Called told plan asks_length true old new × (faults new ≡ faults_after (faults old) true)
    IsNotTold old NoMemory new = new ≡ old
    IsNotTold old (AlreadyMade count) new = ⊥

-- the disk holds more than five bytes, or at most so many
abbrev pub IsLong : Option History → Type 0
IsLong told = WhereTold told (λ before. 5 < length (content before))

abbrev pub IsShort : Option History → Type 0
IsShort told = WhereTold told (λ before. length (content before) ≤ 5)

-- where it is told before and after, the disk holds what it held
abbrev pub HoldsAsBefore : Option History → Option History → Type 0
HoldsAsBefore old new = WhereTold old (λ before. WhereTold new (λ now. content now ≡ content before))

-- over the disk of a node's notes and that of a key's leaves
module _ {D E : Type 0} (told : D → Option History) (plan : D → Option FaultPlan) (faults : D → ℕ)
    (leaves_told : E → Option History) (leaves_plan : E → Option FaultPlan) (leaves_faults : E → ℕ) where
  -- What an init did that begins with the notes, since there is nothing to make of them, and was refused: their journal
  -- wasn't opened, and the leaves stay; or it was, and the leaves' journal wasn't made or opened; or both were, and the
  -- append was stopped.
  abbrev pub RefusesBehindNotes : List ℕ → D → E → InitRefusal → D → E → Type 0
  RefusesBehindNotes identity notes leaves why new_notes new_leaves =
      (RefusesEmpty told plan faults notes why new_notes × (new_leaves ≡ leaves))
      ⊎ (PassesInit told plan faults journal_steps notes new_notes
      × RefusesEmpty leaves_told leaves_plan leaves_faults leaves why new_leaves)
      ⊎ (StopsBehind told plan faults identity notes why new_notes
      × PassesInit leaves_told leaves_plan leaves_faults journal_steps leaves new_leaves)

  -- One that begins with the leaves, since the notes aren't taken: the leaves' journal wasn't made or opened, and the
  -- notes stay; or it was, and the init of the notes was stopped.
  abbrev pub RefusesBehindLeaves : List ℕ → D → E → InitRefusal → D → E → Type 0
  RefusesBehindLeaves identity notes leaves why new_notes new_leaves =
      ((new_notes ≡ notes) × RefusesEmpty leaves_told leaves_plan leaves_faults leaves why new_leaves)
      ⊎ (StopsInit told plan faults (init_steps identity) notes why new_notes
      × PassesInit leaves_told leaves_plan leaves_faults journal_steps leaves new_leaves)

  -- and either, by what the notes hold
  abbrev pub RefusesPair : List ℕ → D → E → InitRefusal → D → E → Type 0
  RefusesPair identity notes leaves why new_notes new_leaves =
      (IsLong (told notes) × RefusesBehindNotes identity notes leaves why new_notes new_leaves)
      ⊎ (IsShort (told notes) × RefusesBehindLeaves identity notes leaves why new_notes new_leaves)

  -- What both did where they went through: both journals were made or opened and the identity was appended to the notes.
  abbrev pub PassesPair : List ℕ → D → E → D → E → Type 0
  PassesPair identity notes leaves new_notes new_leaves =
      PassesInit told plan faults (init_steps identity) notes new_notes
      × PassesInit leaves_told leaves_plan leaves_faults journal_steps leaves new_leaves

  -- What an init of notes and of leaves did that was answered so. First the notes were asked for their length, and by
  -- that it begins with the one or with the other, so that nothing is made where an image is taken.
  abbrev pub BeginsPair : List ℕ → D → E → Result Unit InitRefusal → D → E → Type 0
  BeginsPair identity notes leaves (Ok done) new_notes new_leaves =
      (asked : D) × IsAsked told plan faults notes asked × PassesPair identity asked leaves new_notes new_leaves
  BeginsPair identity notes leaves (Err why) new_notes new_leaves =
      (IsNotTold told plan faults notes why new_notes × (new_leaves ≡ leaves))
      ⊎ ((asked : D) × IsAsked told plan faults notes asked
      × RefusesPair identity asked leaves why new_notes new_leaves)
