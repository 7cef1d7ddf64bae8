-- What holds of the keys of lives holds of lives with cuts.
use Rattle.std.proofs.Common.{ℕ, List, Option}
use Rattle.crash_disk.specs.Disk.{History, FaultPlan}
use Rattle.node_lives.specs.Cuts.{call_in, calls_in}
use Rattle.node_lives.proofs.CutLaws.{live, live-between}
use Rattle.key_lives.specs.CutLaws.{KeysThroughCuts}
use Rattle.key_lives.proofs.SignerLife.{begun_signers_stay, signed_records_stand, signers_sign_once}
use Rattle.key_lives.proofs.DeskLife.{desks_promise_once}

module _ {D : Type 0} (told : D → Option History) (plan : D → Option FaultPlan) (faults : D → ℕ)
    (dig : List ℕ → List ℕ) where
  pub keys_hold_through_cuts : KeysThroughCuts told plan faults dig
  keys_hold_through_cuts = record {
    begun = λ later earlier first life begins.
        begun_signers_stay told plan faults dig (calls_in told plan faults dig later)
        (calls_in told plan faults dig earlier) (call_in told plan faults dig first)
        (live told plan faults dig later earlier first life) begins;
    stand = λ later between earlier step first run life begins is.
        (signed_records_stand told plan faults dig).stand (calls_in told plan faults dig later)
        (calls_in told plan faults dig between) (calls_in told plan faults dig earlier)
        (call_in told plan faults dig step) (call_in told plan faults dig first) run
        (live-between told plan faults dig later between earlier step first life) begins is;
    sign_once = λ later earlier first one other made also life begins here there signs signs_also.
        signers_sign_once told plan faults dig (calls_in told plan faults dig later)
        (calls_in told plan faults dig earlier) (call_in told plan faults dig first) one other made also
        (live told plan faults dig later earlier first life) begins here there signs signs_also;
    promise_once = λ later earlier first one other q made also life begins here there gives gives_also.
        desks_promise_once told plan faults dig (calls_in told plan faults dig later)
        (calls_in told plan faults dig earlier) (call_in told plan faults dig first) one other q made also
        (live told plan faults dig later earlier first life) begins here there gives gives_also;
  }
