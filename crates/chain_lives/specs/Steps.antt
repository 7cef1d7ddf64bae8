-- A chain with its nodes: the calls that were entered, which its contract accepted or refused, and between them what
-- nodes did, the newest first. What a node did stands where its log stood: a run is handed the accepted calls behind
-- it. And what that comes to as events, over which the laws of coins are.
use Rattle.std.specs.Prelude.{ℕ, ◌+◌, ◌-◌, ◌==◌, Bool, false, nat_lt, nat_le, if◌then◌else◌, List, [], ◌∷◌, length, Option, Some, None}
use Rattle.std.specs.Option.{option_map_or}
use Rattle.plasma_tx.specs.declared.owner.Owner.{Owner}
use Rattle.plasma_tx.specs.declared.call.RootCall.{RootCall}
use Rattle.plasma_tx.specs.Chain.{Chain}
use Rattle.node_rules.specs.Wallet.{WalletRecords}
use Rattle.world_rules.specs.Events.{Event, Declares, Joins, Bounces}
use Rattle.world_rules.specs.Steps.{without_offers}

-- a command of a node: the text of its answer, the event that it is, and the node's records with what it adds
pub record Deed : Type 0 where
  pub text : List ℕ
  pub event : Event
  pub left : WalletRecords

-- A run of a node that was opened: the records that it found; the log that it was handed, where that ended, so that
-- commands could come; the commands that it answered, the first one first; the command behind them, if one stood there,
-- which it may have begun; and how many bytes it wrote.
pub record Visit : Type 0 where
  pub found : WalletRecords
  pub log : Option Chain
  pub deeds : List Deed
  pub next : Option Deed
  pub written : ℕ

-- what a node did: it was begun, as a wallet of this owner or as another node; it ran; or it did nothing that counts
pub data Act : Type 0 where
  Begins : Option Owner → Act
  Runs : Visit → Act
  Rests : Act

-- a call that was entered and accepted; one that was entered and refused; or what node n did
pub data Step (A : Type 0) : Type 0 where
  Enters : RootCall → Step A
  Refuses : RootCall → Step A
  Does : ℕ → A → Step A

-- the calls of the chain: a refused one is none
unfoldable pub chain_of : {A : Type 0} → List (Step A) → List RootCall
chain_of [] = []
chain_of (Enters call ∷ steps) = call ∷ chain_of steps
chain_of (Refuses call ∷ steps) = chain_of steps
chain_of (Does n act ∷ steps) = chain_of steps

-- ---- the events of a run

-- the records that these commands leave
abbrev pub left_by : WalletRecords → List Deed → WalletRecords
left_by records [] = records
left_by records (deed ∷ deeds) = left_by deed.left deeds

-- A command whose answer was written, all of it, is its event. One whose answer wasn't has done what it did, and offers
-- nothing: a watch that nobody read is no watch.
abbrev pub event_where : ℕ → ℕ → Deed → Event
event_where n written deed =
    if nat_le (length deed.text) written then deed.event else without_offers n deed.event

-- the answered commands, the newest first, in front of earlier events
unfoldable pub answered_events : ℕ → ℕ → List Deed → List Event → List Event
answered_events n written [] events = events
answered_events n written (deed ∷ deeds) events =
    answered_events n (written - length deed.text) deeds (event_where n written deed ∷ events)

-- the node's next run, if there is one, found more records than these
abbrev pub is_found : WalletRecords → Option WalletRecords → Bool
is_found left None = false
is_found left (Some found) =
    nat_lt (length left.notes + length left.leaves) (length found.notes + length found.leaves)

-- The command that wasn't answered is its event exactly where the node's next run finds its record: a fault, want of
-- memory or a loss of power may have kept it or not. It offers nothing.
abbrev pub late_events : ℕ → Option WalletRecords → Visit → List Event → List Event
late_events n found visit events =
    if is_found (left_by visit.found visit.deeds) found
    then option_map_or (λ deed. without_offers n deed.event ∷ events) visit.next events
    else events

abbrev pub run_events : ℕ → Option WalletRecords → Visit → List Event → List Event
run_events n found visit events = late_events n found visit (answered_events n visit.written visit.deeds events)

-- ---- the events of a chain

-- what the next run of each node finds, from some step on
abbrev pub Found : Type 0
Found = ℕ → Option WalletRecords

abbrev pub none_found : Found
none_found n = None

abbrev pub found_by : ℕ → Act → Found → Found
found_by n (Runs visit) found m = if m == n then Some visit.found else found m
found_by n act found m = found m

abbrev pub act_events : ℕ → Option WalletRecords → Act → List Event → List Event
act_events n found (Begins (Some me)) events = Declares n me ∷ events
act_events n found (Runs visit) events = run_events n found visit events
act_events n found act events = events

unfoldable pub events_behind : Found → List (Step Act) → List Event
events_behind found [] = []
events_behind found (Enters call ∷ steps) = Joins call ∷ events_behind found steps
events_behind found (Refuses call ∷ steps) = Bounces call ∷ events_behind found steps
events_behind found (Does n act ∷ steps) =
    act_events n (found n) act (events_behind (found_by n act found) steps)

-- what the steps come to, the newest event first
abbrev pub events_of : List (Step Act) → List Event
events_of steps = events_behind none_found steps
