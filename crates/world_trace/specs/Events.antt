-- When an event in memory is that of the definitions, and what it is to verdicts.
use Rattle.std.specs.Prelude.{◌≡◌, ℕ, ◌==◌, List, Option, Some, None}
use Rattle.std.specs.List.{list_any}
use Rattle.plasma_tx.specs.{declared.call.RootCall.{RootCall}, Shown.{Tests, Rules}}
use Rattle.world_rules.specs.Events.{Event, Declares, Joins, Bounces, Accepts, Guards, Releases, Binds, TakesBack, Watches, Leaves, Seals, Other, Idle, coin_of_call}
use Rattle.coin_verdicts.specs.{declared.fact.Fact.{Fact}, Facts.{AreThose, IsFactOfCall}}
use Rattle.world_trace.specs.declared.event.LineEvent.{LineEvent}

-- it is that of a call that was accepted behind these
abbrev pub IsJoin : Tests → Rules → List RootCall → RootCall → LineEvent → Type 0
IsJoin tests rules log call (LineEvent.Joins fact) = IsFactOfCall tests rules log call fact
IsJoin tests rules log call event = ⊥

-- it is that of a watch that offers these calls
abbrev pub IsWatch : ℕ → List RootCall → LineEvent → Type 0
IsWatch n calls (LineEvent.Watches node coins) =
    (node ≡ n) × AreThose (λ c. list_any (λ call. coin_of_call call == c) calls) coins
IsWatch n calls event = ⊥

-- the event in memory is this one, behind these calls
abbrev pub IsEvent : Tests → Rules → List RootCall → Event → LineEvent → Type 0
IsEvent tests rules log (Declares w me) event = event ≡ LineEvent.Declares w me
IsEvent tests rules log (Joins call) event = IsJoin tests rules log call event
IsEvent tests rules log (Bounces call) event = event ≡ LineEvent.Idle
IsEvent tests rules log (Accepts w bundle) event = event ≡ LineEvent.Accepts w bundle
IsEvent tests rules log (Guards g bundle) event = event ≡ LineEvent.Guards g bundle
IsEvent tests rules log (Releases g c e) event = event ≡ LineEvent.Releases g c e
IsEvent tests rules log (Binds w body) event = event ≡ LineEvent.Binds w body
IsEvent tests rules log (TakesBack w q bundle) event = event ≡ LineEvent.TakesBack w q bundle
IsEvent tests rules log (Watches n calls) event = IsWatch n calls event
IsEvent tests rules log (Leaves n call) event = event ≡ LineEvent.Other n
IsEvent tests rules log (Seals call) event = event ≡ LineEvent.Other 0
IsEvent tests rules log (Other n) event = event ≡ LineEvent.Other n
IsEvent tests rules log Idle event = event ≡ LineEvent.Idle

-- what a call leaves that is told so, if it is: its event in memory
abbrev pub event_of_call : Option Fact → LineEvent
event_of_call None = LineEvent.Idle
event_of_call (Some fact) = LineEvent.Joins fact
