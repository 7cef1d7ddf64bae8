-- The making of a journal.
use Rattle.std.specs.Prelude.{◌≡◌, ◌≤◌, ℕ, Bool, true, false, ◌==◌, ◌||◌, nat_lt, if◌then◌else◌, List, [], ◌∷◌, ◌++◌, length, Option, is_some, Result, Ok, Err}
use Rattle.crash_disk.specs.Disk.{Step, asks_length, reads, writes, syncs, History, content, MayLeave, FaultPlan}
use Rattle.crash_disk.specs.Calls.{WhereTold, passed, failed_after, Made}
use Rattle.gate_journal.specs.Image.{kept_records}
use Rattle.gate_journal.specs.Journal.{Keeps, IsSettled}
use Rattle.gate_journal.specs.declared.refusal.JournalRefusal.{JournalRefusal}
use Rattle.gate_journal.specs.declared.refusal.JournalRefusal.TheVariants.{AlreadyMade, DeviceFault, NoMemory}

-- the image of an empty journal
abbrev pub empty : List ℕ
empty = 80 ∷ 71 ∷ 74 ∷ 49 ∷ 0 ∷ []

-- the image has more than five bytes, or spells a journal
abbrev pub is_made : List ℕ → Bool
is_made image = nat_lt 5 (length image) || is_some (kept_records image)

-- the calls that look at an image: its length, and its bytes where they are five
abbrev pub look_steps : List ℕ → List Step
look_steps image = asks_length ∷ (if length image == 5 then reads 0 5 ∷ [] else [])

-- the calls of a making over an image: those that look and, where it isn't made, the empty journal, made durable
abbrev pub make_steps : List ℕ → List Step
make_steps image = if is_made image then look_steps image else look_steps image ++ writes 0 empty ∷ syncs ∷ []

-- each image of a crash is that of an empty journal
pub record IsFresh (history : History) : Type 0 where
  pub settled : IsSettled history []
  pub images : (image : List ℕ) → MayLeave history image → image ≡ empty

-- the image has at most five bytes, and keeps no records where it is made
pub record IsBlank (image : List ℕ) : Type 0 where
  pub short : length image ≤ 5
  pub none : is_made image ≡ true → Keeps [] image

-- What a making over an image did that was answered so, and when: all its calls passed, and the image wasn't made, or
-- it was; the first that failed ended them; or none was made.
abbrev pub MakesOver : {D : Type 0} → List ℕ → (D → Option History) → (D → Option FaultPlan) → D
    → Result Unit JournalRefusal → D → Type 0
MakesOver image told plan old (Ok done) new =
    (is_made image ≡ false) × Made told plan make_steps (length (make_steps image)) passed old new
MakesOver image told plan old (Err (AlreadyMade count)) new =
    (is_made image ≡ true) × (count ≡ length image)
    × Made told plan make_steps (length (make_steps image)) passed old new
MakesOver image told plan old (Err DeviceFault) new =
    (count : ℕ) × Made told plan make_steps (length (make_steps image)) (failed_after count) old new
MakesOver image told plan old (Err NoMemory) new = new ≡ old
MakesOver image told plan old (Err why) new = ⊥

-- what a making did that was answered so: over some image, the one that the disk holds where it tells its history
abbrev pub Makes : {D : Type 0} → (D → Option History) → (D → Option FaultPlan) → D → Result Unit JournalRefusal → D
    → Type 0
Makes told plan old result new =
    (image : List ℕ) × WhereTold (told old)
    (λ before. image ≡ content before) × MakesOver image told plan old result new
