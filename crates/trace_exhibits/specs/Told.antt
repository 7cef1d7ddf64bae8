-- The openings that an event shows.
use Rattle.std.specs.Prelude.{ℕ, List, map}
use Rattle.plasma_tx.specs.declared.opening.RawOpening.{RawOpening}
use Rattle.world_rules.specs.Events.{Event}
use Rattle.world_rules.specs.Exhibits.{openings_of, coin_of}
use Rattle.trace_exhibits.specs.Opened.{Opened}

-- an opening of a coin
abbrev pub opened : ℕ → RawOpening → Opened
opened coin opening = record { coin = coin; opening = opening }

-- the openings that an event shows, in their order
abbrev pub shown_of : Event → List Opened
shown_of event = map (opened (coin_of event)) (openings_of (coin_of event) event)
