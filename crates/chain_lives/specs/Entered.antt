-- The calls of a chain with its nodes, as events.
use Rattle.std.specs.Prelude.{ℕ, List, Option}
use Rattle.crash_disk.specs.Disk.{History, FaultPlan}
use Rattle.plasma_tx.specs.declared.call.RootCall.{RootCall}
use Rattle.plasma_tx.specs.Shown.{Rules, tests_by}
use Rattle.world_laws.specs.Legal.{LegalCall}
use Rattle.chain_lives.specs.Steps.{Found, events_behind}
use Rattle.chain_lives.specs.Acts.{acts_of}
use Rattle.chain_lives.specs.Chains.{Steps, MayEnter}

-- a call that may be entered is legal after the events so far, whatever the nodes' next runs will find
abbrev pub EntriesAreLegal : {D : Type 0} → (told : D → Option History) (plan : D → Option FaultPlan)
    (faults : D → ℕ) (dig : List ℕ → List ℕ) (rules : Rules) → Type 0
EntriesAreLegal told plan faults dig rules =
    (steps : Steps told plan faults dig rules) (found : Found) (call : RootCall)
    → MayEnter told plan faults dig rules steps call
    → LegalCall (tests_by dig) rules (events_behind found (acts_of told plan faults dig steps)) call
