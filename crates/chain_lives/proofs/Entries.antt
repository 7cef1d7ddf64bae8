-- The events of a chain with its nodes tell each call that was entered.
use Rattle.std.proofs.Common.{◌≡◌, ℕ, List, [], ◌∷◌, Option, Some, None, refl, ap, ◌∙◌, arith}
use Rattle.std.proofs.lemmas.Grind.{common_steps}
use Rattle.crash_disk.specs.Disk.{History, FaultPlan}
use Rattle.plasma_tx.specs.Shown.{Rules}
use Rattle.node_rules.specs.Wallet.{WalletRecords}
use Rattle.node_lives.specs.Calls.{Call}
use Rattle.world_rules.specs.Events.{Event, Joins, Bounces}
use Rattle.chain_lives.specs.Steps.{Act, Begins, Runs, Rests, Step, Enters, Refuses, Does, Found, act_events, found_by, none_found, events_behind}
use Rattle.chain_lives.specs.Acts.{act_of, acts_of}
use Rattle.chain_lives.specs.Log.{entries_of, entered_in, EventsTellEachEntry}
use Rattle.chain_lives.proofs.Log.{IsQuiet, IsQuietAct, by_call}
use Rattle.chain_lives.proofs.Asides.{run-same}

-- a command of a node enters no call
command-enters : (n : ℕ) (event : Event) (events : List Event) → IsQuiet n event
    → entries_of (event ∷ events) ≡ entries_of events
unfolding entries_of
command-enters n event events quiet = grind (arith, common_steps) steps 20000

act-enters : (n : ℕ) (found : Option WalletRecords) (act : Act) (events : List Event) → IsQuietAct n act
    → entries_of (act_events n found act events) ≡ entries_of events
unfolding entries_of
act-enters n found (Begins (Some me)) events quiet = refl
act-enters n found (Begins None) events quiet = refl
act-enters n found (Runs visit) events quiet =
    run-same entries_of n (λ event others is. command-enters n event others is) found visit events quiet
act-enters n found Rests events quiet = refl

module _ {D : Type 0} (told : D → Option History) (plan : D → Option FaultPlan) (faults : D → ℕ)
    (dig : List ℕ → List ℕ) where
  entries-behind : (found : Found) (steps : List (Step (Call told plan faults dig)))
      → entries_of (events_behind found (acts_of told plan faults dig steps)) ≡ entered_in steps
  unfolding entries_of entered_in events_behind acts_of
  entries-behind found [] = refl
  entries-behind found (Enters call ∷ steps) = ap (λ events. Joins call ∷ events) (entries-behind found steps)
  entries-behind found (Refuses call ∷ steps) = ap (λ events. Bounces call ∷ events) (entries-behind found steps)
  entries-behind found (Does n call ∷ steps) =
      act-enters n (found n) (act_of told plan faults dig n call)
      (events_behind (found_by n (act_of told plan faults dig n call) found) (acts_of told plan faults dig steps))
      (by_call told plan faults dig n call.asked call.old call.new call.outside call.status call.did)
      ∙ entries-behind (found_by n (act_of told plan faults dig n call) found) steps

  pub events_tell_each_entry : (rules : Rules) → EventsTellEachEntry told plan faults dig rules
  events_tell_each_entry rules steps = entries-behind none_found steps
