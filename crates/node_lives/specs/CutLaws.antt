-- What holds of a node's whole life holds where calls were cut off in it.
use Rattle.std.specs.Prelude.{◌≡◌, ℕ, List, ◌∷◌, ◌++◌, Option, Some}
use Rattle.std.specs.List.{All, Contains}
use Rattle.crash_disk.specs.Disk.{History, FaultPlan}
use Rattle.node_replies.specs.Roles.{Role, Wallet}
use Rattle.node_lives.specs.{Calls.{ToRun, Call}, Cuts.{LifeStep, call_in, calls_in, IsLifeWithCuts}, Answered.{Ran, ran_in, GivesOut}, Laws.{Begins, FindsTheNode, StandIn}}

-- Over disks that tell their history, foretell their faults and count them, and under a digest: once a node was begun,
-- each later step finds it; the records of the lines that a step answered stand in every later one; and what a leaf of
-- a wallet's key gave out is one message.
pub record LawsThroughCuts {D : Type 0} (told : D → Option History) (plan : D → Option FaultPlan) (faults : D → ℕ)
    (dig : List ℕ → List ℕ) : Type 0 where
  pub begun : (role : Role) (later earlier : List (LifeStep told plan faults dig))
      (first : LifeStep told plan faults dig)
      → IsLifeWithCuts told plan faults dig (later ++ first ∷ earlier)
      → (begins : Begins told plan faults dig role (call_in told plan faults dig first))
      → All (FindsTheNode told plan faults dig role begins.identity) (calls_in told plan faults dig later)
  pub answered : (role : Role) (later between earlier : List (LifeStep told plan faults dig))
      (step first : LifeStep told plan faults dig) (ran : Ran)
      → IsLifeWithCuts told plan faults dig (later ++ step ∷ (between ++ first ∷ earlier))
      → Begins told plan faults dig role (call_in told plan faults dig first)
      → (call_in told plan faults dig step).asked ≡ ToRun role
      → ran_in told plan faults dig (call_in told plan faults dig step) ≡ Some ran
      → All (StandIn told plan faults dig role ran.left) (calls_in told plan faults dig later)
  pub given_out : (later earlier : List (LifeStep told plan faults dig)) (first : LifeStep told plan faults dig)
      (one other : Call told plan faults dig) (q : ℕ) (made also : List ℕ)
      → IsLifeWithCuts told plan faults dig (later ++ first ∷ earlier)
      → Begins told plan faults dig Wallet (call_in told plan faults dig first)
      → Contains (calls_in told plan faults dig later) one → Contains (calls_in told plan faults dig later) other
      → GivesOut told plan faults dig one q made → GivesOut told plan faults dig other q also → made ≡ also
