-- What holds of lives holds of lives with cuts.
use Rattle.std.proofs.Common.{ℕ, List, ◌∷◌, ◌++◌, Option, subst}
use Rattle.std.proofs.lemmas.List.{map-append}
use Rattle.crash_disk.specs.Disk.{History, FaultPlan}
use Rattle.node_lives.specs.Calls.{Call}
use Rattle.node_lives.specs.Lives.{IsLife}
use Rattle.node_lives.specs.Cuts.{LifeStep, call_in, calls_in, IsLifeWithCuts}
use Rattle.node_lives.specs.CutLaws.{LawsThroughCuts}
use Rattle.node_lives.proofs.Cuts.{cuts_are_faults}
use Rattle.node_lives.proofs.Life.{begun_nodes_stay}
use Rattle.node_lives.proofs.Answered.{answered_records_stand}
use Rattle.node_lives.proofs.Leaves.{leaves_give_out_one_message}

module _ {D : Type 0} (told : D → Option History) (plan : D → Option FaultPlan) (faults : D → ℕ)
    (dig : List ℕ → List ℕ) where
  pub live : (later earlier : List (LifeStep told plan faults dig)) (first : LifeStep told plan faults dig)
      → IsLifeWithCuts told plan faults dig (later ++ first ∷ earlier)
      → IsLife told plan faults dig
      (calls_in told plan faults dig later ++ call_in told plan faults dig first
      ∷ calls_in told plan faults dig earlier)
  live later earlier first life = (cuts_are_faults told plan faults dig).lives later earlier first life

  pub live-between : (later between earlier : List (LifeStep told plan faults dig))
      (step first : LifeStep told plan faults dig)
      → IsLifeWithCuts told plan faults dig (later ++ step ∷ (between ++ first ∷ earlier))
      → IsLife told plan faults dig
      (calls_in told plan faults dig later ++ call_in told plan faults dig step
      ∷ (calls_in told plan faults dig between ++ call_in told plan faults dig first
      ∷ calls_in told plan faults dig earlier))
  live-between later between earlier step first life =
      subst (λ (calls : List (Call told plan faults dig)). IsLife told plan faults dig
      (calls_in told plan faults dig later ++ call_in told plan faults dig step ∷ calls))
      (map-append (call_in told plan faults dig) between (first ∷ earlier))
      (live later (between ++ first ∷ earlier) step life)

  pub laws_hold_through_cuts : LawsThroughCuts told plan faults dig
  laws_hold_through_cuts = record {
    begun = λ role later earlier first life begins.
        begun_nodes_stay told plan faults dig role (calls_in told plan faults dig later)
        (calls_in told plan faults dig earlier) (call_in told plan faults dig first) (live later earlier first life)
        begins;
    answered = λ role later between earlier step first ran life begins asked is.
        answered_records_stand told plan faults dig role (calls_in told plan faults dig later)
        (calls_in told plan faults dig between) (calls_in told plan faults dig earlier)
        (call_in told plan faults dig step) (call_in told plan faults dig first) ran
        (live-between later between earlier step first life) begins asked is;
    given_out = λ later earlier first one other q made also life begins here there gives gives_also.
        leaves_give_out_one_message told plan faults dig (calls_in told plan faults dig later)
        (calls_in told plan faults dig earlier) (call_in told plan faults dig first) one other q made also
        (live later earlier first life) begins here there gives gives_also;
  }
