-- What an exhibit reads of an event in memory, and the wallet that it declares.
use Rattle.std.specs.Prelude.{ℕ, List, [], ◌∷◌}
use Rattle.plasma_tx.specs.declared.call.RootCall.{RootCall}
use Rattle.coin_verdicts.specs.declared.wallet.NamedWallet.{NamedWallet}
use Rattle.world_rules.specs.Events.{Event, Declares, Binds, Idle}
use Rattle.trace_exhibits.specs.Lines.{accepts, joins}
use Rattle.world_trace.specs.declared.event.LineEvent.{LineEvent}

-- of the newest call
abbrev pub joined_in : List RootCall → Event
joined_in [] = Idle
joined_in (call ∷ log) = joins call

-- of an event that left these calls
abbrev pub read_in : List RootCall → LineEvent → Event
read_in log (LineEvent.Declares w me) = Declares w me
read_in log (LineEvent.Joins fact) = joined_in log
read_in log (LineEvent.Accepts w bundle) = accepts bundle.coin bundle.openings
read_in log (LineEvent.Guards g bundle) = accepts bundle.coin bundle.openings
read_in log (LineEvent.Binds w body) = Binds w body
read_in log (LineEvent.TakesBack w q bundle) = accepts bundle.coin bundle.openings
read_in log event = Idle

-- the wallet that the event declares, by this name; none for another
abbrev pub declared_by : List ℕ → LineEvent → List NamedWallet
declared_by name (LineEvent.Declares w me) = record { number = w; name = name } ∷ []
declared_by name event = []
