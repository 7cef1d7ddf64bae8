-- What the calls inside a journal's calls do.
use Rattle.std.specs.Prelude.{◌≡◌, ℕ, ◌+◌, if◌then◌else◌, List, length, Option, Result, Err}
use Rattle.crash_disk.specs.Disk.{History, content, FaultPlan}
use Rattle.crash_disk.specs.Calls.{WhereTold, MadeUntilFault}
use Rattle.gate_journal.specs.Image.{journal_in}
use Rattle.gate_journal.specs.Journal.{JournalState, has_spare, with_spare}
use Rattle.gate_journal.specs.Make.{look_steps}
use Rattle.gate_journal.specs.declared.refusal.JournalRefusal.{JournalRefusal}
use Rattle.gate_journal.specs.declared.refusal.JournalRefusal.TheVariants.{NotJournal, NoMemory}

-- why an image wasn't read: it is no journal, with the place where; or want of memory
abbrev pub IsReadRefusal : List ℕ → JournalRefusal → Type 0
IsReadRefusal image (NotJournal place) = journal_in image ≡ Err place
IsReadRefusal image NoMemory = Unit {0}
IsReadRefusal image refusal = ⊥

-- P holds of some image: of the one that the disk holds, where it tells its history
abbrev pub OverContent : Option History → (List ℕ → Type 0) → Type 0
OverContent told P = (image : List ℕ) × WhereTold told (λ before. image ≡ content before) × P image

-- the calls that look at an image were made up to the first that failed
abbrev pub LooksAt : {D T E : Type 0} → List ℕ → (D → Option History) → (D → Option FaultPlan) → Result T E → D → D
    → Type 0
LooksAt image told plan result old new = MadeUntilFault told plan look_steps (length (look_steps image)) result old new

-- the journal with room for a body of so many bytes, over this disk
abbrev pub with_room_for : {D : Type 0} → ℕ → D → JournalState D → JournalState D
with_room_for bytes disk journal =
    if has_spare journal bytes then journal else with_spare (journal.spare_bodies + 1) bytes disk journal
