-- Openings and beginnings that are given up for want of memory.
use Rattle.operator_core.proofs.Words.{◌≡◌, ℕ, List, [], length, Option, Some, None, option_map, Result, Err, refl, inl, arith, common_steps, Step, History, content, FaultPlan, Inits, BeginsPair, NotesState, Opened, RefusesRole, FitJournal}
use Rattle.crash_disk.specs.Calls.{passed, stopped_after, after_course, Made}
use Rattle.crash_disk.proofs.Calls.{made_stop}
use Rattle.gate_journal.specs.declared.refusal.JournalRefusal.TheVariants.{NotJournal, NoMemory as JournalNoMemory}
use Rattle.gate_journal.specs.declared.refusal.InitRefusal.TheVariants.{NoMemory}
use Rattle.gate_journal.specs.Steps.{open_steps}

pub given_up : {D : Type 0} (told : D → Option History) (plan : D → Option FaultPlan) (faults : D → ℕ)
    (read : List ℕ → Result (List (List ℕ)) ℕ) (old : D) (new : NotesState D)
    → Opened told plan faults read old new → RefusesRole told plan faults read old JournalNoMemory new.disk
given_up told plan faults read old new opened = grind (arith, common_steps) steps 20000

-- records that were read from a disk that tells what it holds fit a journal
pub not_long : {D : Type 0} (told : D → Option History) (plan : D → Option FaultPlan) (faults : D → ℕ)
    (read : List ℕ → Result (List (List ℕ)) ℕ) (old : D) (new : NotesState D) (records : List (List ℕ)) (place : ℕ)
    → Opened told plan faults read old new → records ≡ new.records → (FitJournal records → ⊥)
    → RefusesRole told plan faults read old (NotJournal place) new.disk
not_long told plan faults read old new records place opened same long = record {
  refused = (
    opened.made,
    λ before is. absurd (long (rw same (opened.settled
        (after_course passed (open_steps (content before)) before)
        (grind (arith, common_steps) steps 20000)).kept.fits)),
  );
  count = opened.count;
}

module _ {D : Type 0} (told : D → Option History) (plan : D → Option FaultPlan) where
  -- no device call was made
  nothing_made : (steps : List ℕ → List Step) (most : ℕ) (disk : D)
      → Made told plan steps most (stopped_after 0) disk disk
  nothing_made steps most disk = record {
    calls = at (told disk);
    planned = (made_stop told plan [] most disk).planned;
  }
    where
      at : (t : Option History)
          → t ≡ option_map (λ before. after_course (stopped_after 0) (steps (content before)) before) t
      at None = refl
      at (Some before) = refl

  pub no_init : (steps : List ℕ → List Step) (disk : D) → Inits told plan steps disk (Err NoMemory) disk
  no_init steps disk = λ before is. (0, nothing_made steps (length (steps (content before))) disk)

  pub no_pair : {E : Type 0} (leaves_told : E → Option History) (leaves_plan : E → Option FaultPlan) (faults : D → ℕ)
      (leaves_faults : E → ℕ) (identity : List ℕ) (disk : D) (leaves : E)
      → BeginsPair told plan faults leaves_told leaves_plan leaves_faults identity disk leaves
      (Err NoMemory) disk leaves
  no_pair leaves_told leaves_plan faults leaves_faults identity disk leaves =
      inl (refl, refl)
