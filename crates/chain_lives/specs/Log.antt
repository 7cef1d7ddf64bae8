-- What the events of a chain with its nodes say of the chain.
use Rattle.std.specs.Prelude.{◌≡◌, ℕ, List, [], ◌∷◌, Option}
use Rattle.crash_disk.specs.Disk.{History, FaultPlan}
use Rattle.plasma_tx.specs.Shown.{Rules}
use Rattle.world_rules.specs.Events.{Event, Joins, Bounces, log_of}
use Rattle.chain_lives.specs.Steps.{Step, Enters, Refuses, Does, chain_of}
use Rattle.chain_lives.specs.Chains.{Steps, events_in}

-- the calls that the events accepted are those of the chain, whatever the nodes did
abbrev pub EventsHoldTheChain : {D : Type 0} → (told : D → Option History) (plan : D → Option FaultPlan)
    (faults : D → ℕ) (dig : List ℕ → List ℕ) (rules : Rules) → Type 0
EventsHoldTheChain told plan faults dig rules =
    (steps : Steps told plan faults dig rules) → log_of (events_in told plan faults dig rules steps) ≡ chain_of steps

-- the events that enter a call, accepted or refused
unfoldable pub entries_of : List Event → List Event
entries_of [] = []
entries_of (Joins call ∷ events) = Joins call ∷ entries_of events
entries_of (Bounces call ∷ events) = Bounces call ∷ entries_of events
entries_of (event ∷ events) = entries_of events

-- what was entered
unfoldable pub entered_in : {A : Type 0} → List (Step A) → List Event
entered_in [] = []
entered_in (Enters call ∷ steps) = Joins call ∷ entered_in steps
entered_in (Refuses call ∷ steps) = Bounces call ∷ entered_in steps
entered_in (Does n act ∷ steps) = entered_in steps

-- The events tell each call that was entered, in its place and as it was answered, and no other: no refusal is left
-- out.
abbrev pub EventsTellEachEntry : {D : Type 0} → (told : D → Option History) (plan : D → Option FaultPlan)
    (faults : D → ℕ) (dig : List ℕ → List ℕ) (rules : Rules) → Type 0
EventsTellEachEntry told plan faults dig rules =
    (steps : Steps told plan faults dig rules)
    → entries_of (events_in told plan faults dig rules steps) ≡ entered_in steps
