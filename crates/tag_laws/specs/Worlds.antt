-- What a world's definitions count as sent, accepted and guarded is of the world's chain, and so is each call that
-- joins its log.
use Rattle.std.specs.Prelude.{◌≡◌, ℕ, List}
use Rattle.std.specs.List.{All}
use Rattle.schedule_text.specs.declared.line.Line.{Line}
use Rattle.world_rules.specs.Events.{Event, Joins, Accepts, Guards, Binds, bound_by, signed_away_by}
use Rattle.world_rules.specs.World.{World}
use Rattle.world_rules.specs.Steps.{Run, events_of}
use Rattle.world_laws.specs.Headline.{IsRun}
use Rattle.tag_laws.specs.Histories.{ShowsOnlyOwn}
use Rattle.tag_laws.specs.Calls.{CallShowsOwn}

-- a call that joined shows transfers of the chain, a bundle that was accepted or is guarded shows nothing else, and
-- what a leaf binds is of the chain
abbrev pub EventIsOwn : List ℕ → Event → Type 0
EventIsOwn tag (Joins call) = CallShowsOwn tag call
EventIsOwn tag (Accepts w bundle) = ShowsOnlyOwn tag bundle
EventIsOwn tag (Guards g bundle) = ShowsOnlyOwn tag bundle
EventIsOwn tag (Binds w body) = body.tag ≡ tag
EventIsOwn tag event = Unit {0}

-- so is each event of every run
abbrev pub RunsAreOfTheChain : Type 0
RunsAreOfTheChain = (dig : List ℕ → List ℕ) (lines : List Line) (run : Run) (world : World)
    → IsRun dig lines run world → All (EventIsOwn world.chain.tag) (events_of run.entries)

-- and all that leaves of a wallet bind, and what of it signs coins away
abbrev pub BoundAreOfTheChain : Type 0
BoundAreOfTheChain = (dig : List ℕ → List ℕ) (lines : List Line) (run : Run) (world : World) (w : ℕ)
    → IsRun dig lines run world
    → All (λ body. body.tag ≡ world.chain.tag) (bound_by (events_of run.entries) w)
    × All (λ body. body.tag ≡ world.chain.tag) (signed_away_by (events_of run.entries) w)
