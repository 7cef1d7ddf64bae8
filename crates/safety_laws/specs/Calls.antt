-- The calls that are advised, over every list of legal events, and over every run.
use Rattle.std.specs.Prelude.{◌≡◌, ℕ, true, false, List, ◌++◌}
use Rattle.std.specs.List.{Contains}
use Rattle.plasma_tx.specs.declared.links.Links.{Links}
use Rattle.plasma_tx.specs.declared.call.RootCall.{RootCall}
use Rattle.plasma_tx.specs.Shown.{Rules, tests_by, rules_of}
use Rattle.plasma_tx.specs.Table.{answer_to, is_accepted}
use Rattle.schedule_text.specs.declared.line.Line.{Line}
use Rattle.node_rules.specs.Wallet.{start_of as leaving_start}
use Rattle.world_rules.specs.Laws.{IsDigest}
use Rattle.world_rules.specs.Events.{Event, log_of}
use Rattle.world_rules.specs.World.{World}
use Rattle.world_rules.specs.Steps.{Run, events_of}
use Rattle.world_rules.specs.Exhibits.{collides}
use Rattle.world_laws.specs.Headline.{IsRun}
use Rattle.world_laws.specs.Legal.{IsLegal}
use Rattle.money_laws.specs.Reserve.{AreAccepted}
use Rattle.coin_safety.specs.declared.kept.Kept.{Kept}
use Rattle.coin_safety.specs.Advice.{start_of, calls_of, missing}
use Rattle.coin_safety.specs.Laws.{is_poor}
use Rattle.safety_laws.specs.Look.{IsKeptBy}

-- Each call that is advised for a coin that a node keeps is accepted, unless it takes money that the account hasn't
-- got; where the events show no clash at the coin.
abbrev pub LegalActsAreAccepted : Type 0
LegalActsAreAccepted = (dig : List ℕ → List ℕ) (rules : Rules) (events : List Event) (n account : ℕ) (kept : Kept)
    (call : RootCall)
    → IsDigest dig → IsLegal (tests_by dig) rules events → IsKeptBy rules events n kept
    → Contains (calls_of (log_of events) account kept) call → collides dig events kept.links.coin ≡ false
    → is_poor (log_of events) account call ≡ false
    → is_accepted (answer_to (tests_by dig) rules (log_of events) call) ≡ true

-- at each line of a run
abbrev pub ActsOfRunsAreAccepted : Type 0
ActsOfRunsAreAccepted = (dig : List ℕ → List ℕ) (lines : List Line) (run : Run) (world : World)
    (later events : List Event) (n account : ℕ) (kept : Kept) (call : RootCall)
    → IsRun dig lines run world → events_of run.entries ≡ later ++ events
    → IsKeptBy (rules_of world.chain) events n kept
    → Contains (calls_of (log_of events) account kept) call → collides dig events kept.links.coin ≡ false
    → is_poor (log_of events) account call ≡ false
    → is_accepted (answer_to (tests_by dig) (rules_of world.chain) (log_of events) call) ≡ true

-- The start of the own exit is the call that a wallet offers when it leaves.
abbrev pub StartsAreLeaves : Type 0
StartsAreLeaves = (account at : ℕ) (links : Links) → start_of account at links ≡ leaving_start account at links

-- Where no money is missing, all of them are accepted, entered one after the other in their order.
abbrev pub LegalEnoughIsEnough : Type 0
LegalEnoughIsEnough = (dig : List ℕ → List ℕ) (rules : Rules) (events : List Event) (n account : ℕ) (kept : Kept)
    → IsDigest dig → IsLegal (tests_by dig) rules events → IsKeptBy rules events n kept
    → collides dig events kept.links.coin ≡ false
    → missing (log_of events) account (calls_of (log_of events) account kept) ≡ 0
    → AreAccepted (tests_by dig) rules (log_of events) (calls_of (log_of events) account kept)

-- at each line of a run
abbrev pub EnoughOfRunsIsEnough : Type 0
EnoughOfRunsIsEnough = (dig : List ℕ → List ℕ) (lines : List Line) (run : Run) (world : World)
    (later events : List Event) (n account : ℕ) (kept : Kept)
    → IsRun dig lines run world → events_of run.entries ≡ later ++ events
    → IsKeptBy (rules_of world.chain) events n kept → collides dig events kept.links.coin ≡ false
    → missing (log_of events) account (calls_of (log_of events) account kept) ≡ 0
    → AreAccepted (tests_by dig) (rules_of world.chain) (log_of events) (calls_of (log_of events) account kept)
