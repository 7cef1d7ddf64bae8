-- What the lines of a trace are to its exhibit.
use Rattle.std.specs.Prelude.{ℕ, List}
use Rattle.plasma_tx.specs.declared.call.RootCall.{RootCall}
use Rattle.plasma_tx.specs.declared.opening.RawOpening.{RawOpening}
use Rattle.watch_duty.specs.Laws.{openings_of_call}
use Rattle.world_rules.specs.Events.{Event, Declares, Binds, Joins, Accepts, Guards, TakesBack, Idle, coin_of_call}
use Rattle.trace_exhibits.specs.declared.lines.ExhibitLine.{ExhibitLine}

-- some node accepts openings of a coin
abbrev pub accepts : ℕ → List RawOpening → Event
accepts coin openings = Accepts 0 (record { coin = coin; tip = 0; openings = openings })

-- what an exhibit reads of a call: the openings that it shows of its coin
abbrev pub joins : RootCall → Event
joins call = accepts (coin_of_call call) (openings_of_call (coin_of_call call) call)

-- what an exhibit reads of an event: the wallet that it declares, the body that it binds, the openings that it accepts
abbrev pub read_of : Event → Event
read_of (Declares w me) = Declares w me
read_of (Binds w body) = Binds w body
read_of (Joins call) = joins call
read_of (Accepts w bundle) = accepts bundle.coin bundle.openings
read_of (Guards g bundle) = accepts bundle.coin bundle.openings
read_of (TakesBack w q bundle) = accepts bundle.coin bundle.openings
read_of event = Idle

-- the same of a line
abbrev pub event_of : ExhibitLine → Event
event_of (ExhibitLine.Declares w me) = Declares w me.now
event_of (ExhibitLine.Binds w body) = Binds w body.now
event_of (ExhibitLine.Joins call) = joins call.now
event_of (ExhibitLine.Shows coin openings) = accepts coin openings.now
event_of ExhibitLine.Other = Idle
