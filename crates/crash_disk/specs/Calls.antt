-- The frame of a call over a disk: which device calls it made, how they went, and where it left the plan of faults. The
-- disk's history and its plan are functions of the disk, where it tells them.
use Rattle.std.specs.Prelude.{◌≡◌, ◌<◌, ◌≤◌, ℕ, zero, suc, ◌+◌, Bool, true, false, List, [], ◌∷◌, length, take, Option, Some, option_map, Result, Ok, Err}
use Rattle.crash_disk.specs.Disk.{Step, DeviceCall, History, content, with_call, FaultPlan, fails_first, after_one, after_calls, passing}

-- what stands where a disk tells its history
abbrev pub WhereTold : Option History → (History → Type 0) → Type 0
WhereTold told P = (history : History) → told ≡ Some history → P history

-- One device call was made, which failed or passed: exactly as the plan says, where there is one.
pub record Called {D : Type 0} (told : D → Option History) (plan : D → Option FaultPlan) (step : Step)
    (failed : Bool) (old new : D) : Type 0 where
  pub history : told new ≡ option_map (with_call step failed) (told old)
  pub fails : (foretold : FaultPlan) → plan old ≡ Some foretold → failed ≡ fails_first foretold
  pub goes_on : plan new ≡ option_map after_one (plan old)

-- the same calls told, the same plan of faults and the same count
pub record IsStill {D : Type 0} (told : D → Option History) (plan : D → Option FaultPlan) (faults : D → ℕ)
    (old new : D) : Type 0 where
  pub same_calls : told new ≡ told old
  pub same_plan : plan new ≡ plan old
  pub same_count : faults new ≡ faults old

-- How the device calls of a call went, and whether it was answered: all passed; so many passed and the next one failed;
-- or so many passed and no other was made, for want of memory or of power. Where there are no more calls than that, all
-- passed and the answer was lost.
pub data Course : Type 0 where
  passed : Course
  failed_after : ℕ → Course
  stopped_after : ℕ → Course

-- the device calls of which the first so many passed and the next one failed, the newest first, before earlier ones
abbrev pub made_of : ℕ → List Step → List DeviceCall → List DeviceCall
made_of count [] calls = calls
made_of zero (step ∷ steps) calls = record { step = step; failed = true } ∷ calls
made_of (suc count) (step ∷ steps) calls = made_of count steps (record { step = step; failed = false } ∷ calls)

-- the history after them
abbrev pub with_made : ℕ → List Step → History → History
with_made count steps history = record { began = history.began; calls = made_of count steps history.calls }

-- the history after device calls that went so
abbrev pub after_course : Course → List Step → History → History
after_course passed steps history = with_made (length steps) steps history
after_course (failed_after count) steps history = with_made count steps history
after_course (stopped_after count) steps history = with_made count (take count steps) history

-- of so many calls so many pass before one fails, where the disk foretells it
abbrev pub Passes : Option FaultPlan → ℕ → ℕ → Type 0
Passes plan most count = (foretold : FaultPlan) → plan ≡ Some foretold → passing most foretold ≡ count

-- what the plan foretold of so many calls that went so, and where it is then
abbrev pub GoesByPlan : ℕ → Course → Option FaultPlan → Option FaultPlan → Type 0
GoesByPlan most passed before now = Passes before most most × (now ≡ option_map (after_calls most) before)
GoesByPlan most (failed_after count) before now =
    (count < most) × Passes before most count × (now ≡ option_map (after_calls (count + 1)) before)
GoesByPlan most (stopped_after count) before now =
    (count ≤ most) × Passes before count count × (now ≡ option_map (after_calls count) before)

-- These device calls, so many in all, went so. What they ask for may depend on what the disk holds.
pub record Made {D : Type 0} (told : D → Option History) (plan : D → Option FaultPlan) (steps : List ℕ → List Step)
    (most : ℕ) (course : Course) (old new : D) : Type 0 where
  pub calls : told new ≡ option_map (λ before. after_course course (steps (content before)) before) (told old)
  pub planned : GoesByPlan most course (plan old) (plan new)

-- These device calls, so many in all, were made up to the first that failed, and answered so.
abbrev pub MadeUntilFault : {D T E : Type 0} → (D → Option History) → (D → Option FaultPlan) → (List ℕ → List Step)
    → ℕ → Result T E → D → D → Type 0
MadeUntilFault told plan steps most (Ok done) old new = Made told plan steps most passed old new
MadeUntilFault told plan steps most (Err e) old new =
    (count : ℕ) × Made told plan steps most (failed_after count) old new
