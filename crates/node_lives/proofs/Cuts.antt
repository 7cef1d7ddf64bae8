-- What a crash leaves at the moment of a cut is among what it leaves behind device calls that all failed since: so a
-- life with cuts is a life.
use Rattle.std.proofs.Common.{◌≡◌, ℕ, zero, suc, true, false, List, [], ◌∷◌, ◌++◌, take, drop, Option, subst, arith}
use Rattle.std.specs.List.{All}
use Rattle.std.proofs.lemmas.List.{map-append}
use Rattle.std.proofs.lemmas.List.Elements.{All-head, All-tail}
use Rattle.std.proofs.lemmas.List.Folds.{list_any-append}
use Rattle.std.proofs.lemmas.Grind.{common_steps}
use Rattle.crash_disk.specs.Disk.{Step, asks_length, reads, writes, syncs, DeviceCall, History, synced_content_after, unsynced_ranges_after, is_touched, MayLeave, FaultPlan}
use Rattle.crash_disk.proofs.Images.{length-with_write}
use Rattle.node_lives.specs.Disks.{Pair, Lies, Crashed, BothLie}
use Rattle.node_lives.specs.Lives.{IsLife, LieBehind}
use Rattle.node_lives.specs.Cuts.{FailsSince, CrashedAt, Cut, LifeStep, Ended, CutOff, call_in, calls_in, LieBehindStep, LieBehindSteps, IsLifeWithCuts, CutsAreFaults}

-- ---- device calls that failed

-- with more ranges no less is touched
touched-less : (bytes : List ℕ) (ranges more : List (ℕ × ℕ)) (place : ℕ)
    → is_touched bytes (ranges ++ more) place ≡ false → is_touched bytes ranges place ≡ false
touched-less bytes ranges more place = grind (arith, list_any-append)

-- the history with a device call more that failed
abbrev behind : List ℕ → List DeviceCall → Step → History
behind began calls step = record { began = began; calls = record { step = step; failed = true } ∷ calls }

module _ (began : List ℕ) (calls : List DeviceCall) (image : List ℕ)
    (may : MayLeave (record { began = began; calls = calls }) image) where
  abbrev synced : List ℕ
  synced = synced_content_after began calls

  abbrev ranges : List (ℕ × ℕ)
  ranges = unsynced_ranges_after calls

  one-more : (step : Step) → MayLeave (behind began calls step) image
  one-more asks_length = grind (arith, common_steps, touched-less) steps 20000
  one-more (reads at count) = grind (arith, common_steps, touched-less) steps 20000
  one-more (writes at bytes) = grind (arith, common_steps, length-with_write, touched-less) steps 20000
  one-more syncs = grind (arith, common_steps, touched-less) steps 20000

  pub failed-leaves : (call : DeviceCall) → call.failed ≡ true
      → MayLeave (record { began = began; calls = call ∷ calls }) image
  failed-leaves call failed = grind (arith, common_steps, one-more) steps 20000

-- a crash before device calls that all failed leaves no more than one behind them
pub all-failed : (began : List ℕ) (count : ℕ) (calls : List DeviceCall)
    → All (λ (call : DeviceCall). call.failed ≡ true) (take count calls) → (image : List ℕ)
    → MayLeave (record { began = began; calls = drop count calls }) image
    → MayLeave (record { began = began; calls = calls }) image
all-failed began zero calls failed image may = may
all-failed began (suc count) [] failed image may = may
all-failed began (suc count) (call ∷ calls) failed image may =
    failed-leaves began calls image
    (all-failed began count calls (All-tail (λ (c : DeviceCall). c.failed ≡ true) call (take count calls) failed) image
    may)
    call (All-head (λ (c : DeviceCall). c.failed ≡ true) call (take count calls) failed)

-- ---- lives

module _ {D : Type 0} (told : D → Option History) where
  pub lies-behind : (moment : History) (disk next : D) → FailsSince told moment disk → CrashedAt told moment next
      → Lies told disk next
  lies-behind moment disk next since crashed =
      Crashed since.now crashed.image since.told_is
      (all-failed since.now.began since.count since.now.calls since.failed crashed.image
      (subst (λ (h : History). MayLeave h crashed.image) since.before crashed.may))
      crashed.is

module _ {D : Type 0} (told : D → Option History) (plan : D → Option FaultPlan) (faults : D → ℕ)
    (dig : List ℕ → List ℕ) where
  cut-lies : (cut : Cut told plan faults dig) (next : Pair D) → LieBehindStep told plan faults dig (CutOff cut) next
      → BothLie told cut.call.new next
  cut-lies cut next (notes, leaves) = (
    lies-behind told cut.notes cut.call.new.notes next.notes cut.notes_fail notes,
    lies-behind told cut.leaves cut.call.new.leaves next.leaves cut.leaves_fail leaves,
  )

  step-lies : (step : LifeStep told plan faults dig) (next : Pair D) → LieBehindStep told plan faults dig step next
      → BothLie told (call_in told plan faults dig step).new next
  step-lies (Ended call) next lie = lie
  step-lies (CutOff cut) next lie = cut-lies cut next lie

  steps-lie : (steps : List (LifeStep told plan faults dig)) (next : Pair D)
      → LieBehindSteps told plan faults dig steps next
      → LieBehind told plan faults dig (calls_in told plan faults dig steps) next
  steps-lie [] next lie = tt
  steps-lie (step ∷ steps) next lie = step-lies step next lie

  pub steps-live : (steps : List (LifeStep told plan faults dig)) → IsLifeWithCuts told plan faults dig steps
      → IsLife told plan faults dig (calls_in told plan faults dig steps)
  unfolding IsLife IsLifeWithCuts
  steps-live [] life = tt
  steps-live (step ∷ steps) (tells, lie, life) =
      (tells, steps-lie steps (call_in told plan faults dig step).old lie, steps-live steps life)

  pub cuts_are_faults : CutsAreFaults told plan faults dig
  cuts_are_faults = record {
    images = cut-lies;
    lives = λ later earlier first life.
        subst (IsLife told plan faults dig)
        (map-append (call_in told plan faults dig) later (first ∷ earlier))
        (steps-live (later ++ first ∷ earlier) life);
  }
