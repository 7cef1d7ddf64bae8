-- What an opening did that was stopped between the two disks.
use Rattle.hss_runs.proofs.Words.{◌≡◌, ℕ, List, [], Option, Some, None, Result, refl, arith, option_map, History, content, FaultPlan, stopped_after, after_course, Made, RefusesRole, NoMemory}
use Rattle.crash_disk.proofs.Calls.{made_stop}
use Rattle.gate_journal.specs.Steps.{open_steps}

module _ {D : Type 0} (told : D → Option History) (plan : D → Option FaultPlan) (faults : D → ℕ) (disk : D) where
  -- an opening that made no device call
  none-made : Made told plan open_steps 3 (stopped_after 0) disk disk
  none-made = record { calls = at (told disk); planned = (made_stop told plan [] 3 disk).planned }
    where
      at : (t : Option History)
          → t ≡ option_map (λ before. after_course (stopped_after 0) (open_steps (content before)) before) t
      at None = refl
      at (Some before) = refl

  -- memory ran out before it
  pub starved : (read : List ℕ → Result (List (List ℕ)) ℕ) → RefusesRole told plan faults read disk NoMemory disk
  starved read = record { refused = (0, (λ one. absurd (omega (arith, one))), none-made); count = refl }
