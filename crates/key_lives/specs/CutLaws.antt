-- What holds of the keys of a whole life holds where calls were cut off in it.
use Rattle.std.specs.Prelude.{◌≡◌, ℕ, List, ◌∷◌, ◌++◌, Option, Some}
use Rattle.std.specs.List.{All, Contains}
use Rattle.crash_disk.specs.Disk.{History, FaultPlan}
use Rattle.hss_keys.specs.Levels.{HssBoundState}
use Rattle.node_replies.specs.Roles.{Operator}
use Rattle.node_lives.specs.Calls.{Call}
use Rattle.node_lives.specs.Cuts.{LifeStep, call_in, calls_in, IsLifeWithCuts}
use Rattle.node_lives.specs.Laws.{Begins}
use Rattle.key_lives.specs.Signers.{SignerRun, left_by, signer_run_in, SignsBy}
use Rattle.key_lives.specs.SignerLaws.{BeginsSigner, FindsTheSigner, SignedStandIn}
use Rattle.key_lives.specs.Desks.{GivesReceipt}

-- Over disks that tell their history, foretell their faults and count them, and under a digest: once a signer was
-- begun, each later step finds it; the records of what a step signed stand in every later one; no leaf of either level
-- signs two messages; and no leaf of an operator's key two promises.
pub record KeysThroughCuts {D : Type 0} (told : D → Option History) (plan : D → Option FaultPlan) (faults : D → ℕ)
    (dig : List ℕ → List ℕ) : Type 0 where
  pub begun : (later earlier : List (LifeStep told plan faults dig)) (first : LifeStep told plan faults dig)
      → IsLifeWithCuts told plan faults dig (later ++ first ∷ earlier)
      → (begins : BeginsSigner told plan faults dig (call_in told plan faults dig first))
      → All (FindsTheSigner told plan faults dig begins.seed) (calls_in told plan faults dig later)
  pub stand : (later between earlier : List (LifeStep told plan faults dig))
      (step first : LifeStep told plan faults dig) (run : SignerRun)
      → IsLifeWithCuts told plan faults dig (later ++ step ∷ (between ++ first ∷ earlier))
      → (begins : BeginsSigner told plan faults dig (call_in told plan faults dig first))
      → signer_run_in told plan faults dig (call_in told plan faults dig step) ≡ Some run
      → All (SignedStandIn told plan faults dig begins.seed (left_by run)) (calls_in told plan faults dig later)
  pub sign_once : (later earlier : List (LifeStep told plan faults dig)) (first : LifeStep told plan faults dig)
      (one other : Call told plan faults dig) (made also : HssBoundState)
      → IsLifeWithCuts told plan faults dig (later ++ first ∷ earlier)
      → BeginsSigner told plan faults dig (call_in told plan faults dig first)
      → Contains (calls_in told plan faults dig later) one → Contains (calls_in told plan faults dig later) other
      → SignsBy told plan faults dig one made → SignsBy told plan faults dig other also
      → made.top_leaf ≡ also.top_leaf
      → (made.bottom ≡ also.bottom) × (made.leaf ≡ also.leaf → made.message ≡ also.message)
  pub promise_once : (later earlier : List (LifeStep told plan faults dig)) (first : LifeStep told plan faults dig)
      (one other : Call told plan faults dig) (q : ℕ) (made also : List ℕ)
      → IsLifeWithCuts told plan faults dig (later ++ first ∷ earlier)
      → Begins told plan faults dig Operator (call_in told plan faults dig first)
      → Contains (calls_in told plan faults dig later) one → Contains (calls_in told plan faults dig later) other
      → GivesReceipt told plan faults dig one q made → GivesReceipt told plan faults dig other q also → made ≡ also
