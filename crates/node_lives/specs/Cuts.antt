-- A call that is cut off within, as by a loss of power, and a life with such calls.
use Rattle.std.specs.Prelude.{◌≡◌, ℕ, true, List, [], ◌∷◌, ◌++◌, map, take, Option, Some}
use Rattle.std.specs.List.{All}
use Rattle.crash_disk.specs.Disk.{History, fresh_history, MayLeave, before_last, FaultPlan}
use Rattle.node_lives.specs.{Disks.{Pair, BothLie, BothTell}, Calls.{Call}, Lives.{IsLife}}

-- over disks that tell their history
module _ {D : Type 0} (told : D → Option History) where
  -- A disk told this at a moment, and each device call since then failed.
  pub record FailsSince (moment : History) (disk : D) : Type 0 where
    pub now : History
    pub told_is : told disk ≡ Some now
    pub count : ℕ
    pub before : moment ≡ before_last count now
    pub failed : All (λ call. call.failed ≡ true) (take count now.calls)

  -- a crash at that moment left an image, with which the disk begins anew
  pub record CrashedAt (moment : History) (next : D) : Type 0 where
    pub image : List ℕ
    pub may : MayLeave moment image
    pub is : told next ≡ Some (fresh_history image)

-- over disks that tell their history, foretell their faults and count them, and under a digest
module _ {D : Type 0} (told : D → Option History) (plan : D → Option FaultPlan) (faults : D → ℕ)
    (dig : List ℕ → List ℕ) where
  -- A call that was cut off: what its disks told at that moment, and the call that it is where from that moment on no
  -- device call passes and the sink takes nothing. Up to the moment the two are one, since a program knows what comes
  -- by the answers that it gets. So the cut call wrote what that one wrote.
  pub record Cut : Type 0 where
    pub call : Call told plan faults dig
    pub notes : History
    pub leaves : History
    pub notes_fail : FailsSince told notes call.new.notes
    pub leaves_fail : FailsSince told leaves call.new.leaves

  -- a step of a life: a call that ended, or one that was cut off
  pub data LifeStep : Type 0 where
    Ended : Call told plan faults dig → LifeStep
    CutOff : Cut → LifeStep

  -- the call that ended, or the one as which a cut one is taken
  abbrev pub call_in : LifeStep → Call told plan faults dig
  call_in (Ended call) = call
  call_in (CutOff cut) = cut.call

  abbrev pub calls_in : List LifeStep → List (Call told plan faults dig)
  calls_in steps = map call_in steps

  -- The disks lie as a call that ended left them, or a crash since; or as a crash left them at the moment of a cut.
  abbrev pub LieBehindStep : LifeStep → Pair D → Type 0
  LieBehindStep (Ended call) pair = BothLie told call.new pair
  LieBehindStep (CutOff cut) pair = CrashedAt told cut.notes pair.notes × CrashedAt told cut.leaves pair.leaves

  abbrev pub LieBehindSteps : List LifeStep → Pair D → Type 0
  LieBehindSteps [] pair = Unit {0}
  LieBehindSteps (step ∷ steps) pair = LieBehindStep step pair

  -- steps, the newest first, each on disks that tell, and that lie behind the one before
  unfoldable pub IsLifeWithCuts : List LifeStep → Type 0
  IsLifeWithCuts [] = Unit {0}
  IsLifeWithCuts (step ∷ steps) =
      BothTell told (call_in step).old × LieBehindSteps steps (call_in step).old × IsLifeWithCuts steps

  -- What a crash leaves at the moment of a cut is among what a crash leaves of the call that faults broke off there.
  -- So a life with cuts is a life, and what holds of lives holds of it: of the calls that ended, and of those that
  -- were cut off as of calls that faults broke off.
  pub record CutsAreFaults : Type 0 where
    pub images : (cut : Cut) (next : Pair D) → LieBehindStep (CutOff cut) next → BothLie told cut.call.new next
    pub lives : (later earlier : List LifeStep) (first : LifeStep) → IsLifeWithCuts (later ++ first ∷ earlier)
        → IsLife told plan faults dig (calls_in later ++ call_in first ∷ calls_in earlier)
