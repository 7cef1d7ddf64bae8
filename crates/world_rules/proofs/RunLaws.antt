-- The log and the mail of a run are those of its events and of what its lines made.
use Rattle.world_rules.proofs.Basics.{◌≡◌, ℕ, List, [], ◌∷◌, map, reverse, refl, arith, common_steps, reverse_onto}
use Rattle.world_rules.proofs.WorldWords.{Event, log_of, World, events_of, Act, done, LogsAreOfEvents, ItemsAreMade}
use Rattle.world_rules.proofs.StepLaws.{act-log}
use Rattle.world_rules.proofs.Lives.{line_effect, IsAny, any_run, runs_keep}

-- ---- the log

log-step : (event : Event) (events : List Event) → log_of (event ∷ []) ≡ [] → log_of (event ∷ events) ≡ log_of events
unfolding log_of
log-step event events none = grind (arith, common_steps)

-- one more act
pub log-more : (dig : List ℕ → List ℕ) (world : World) (act : Act) (events : List Event)
    → world.chain.log ≡ log_of events
    → (line_effect dig world act).world.chain.log ≡ log_of ((done dig world act).event ∷ events)
unfolding log_of
log-more dig world act events has = grind (arith, common_steps, act-log, log-step)

pub logs_are_of_events : LogsAreOfEvents
unfolding log_of events_of
logs_are_of_events dig lines run world is world_is =
    runs_keep dig IsAny (λ entries world. world.chain.log ≡ log_of (events_of entries))
    (λ tag operator most. refl)
    (grind (arith, common_steps, log-more))
    lines run world (any_run dig lines run world is world_is)

-- ---- the mail

-- before its own item a line leaves the mail
mail-stays : (dig : List ℕ → List ℕ) (world : World) (act : Act) → (done dig world act).world.mail ≡ world.mail
unfolding done
mail-stays dig world act = grind (arith, common_steps)

pub items_are_made : ItemsAreMade
items_are_made dig lines run world is world_is =
    runs_keep dig IsAny (λ entries world. world.mail ≡ reverse (map (λ entry. entry.made) entries))
    (λ tag operator most. refl)
    (grind (arith, common_steps, mail-stays, reverse_onto))
    lines run world (any_run dig lines run world is world_is)
