-- What an order of a node leaves behind as an event.
use Rattle.std.specs.Prelude.{◌≡◌, ℕ, Bool, true, false, if◌then◌else◌, List, Option, Some, None}
use Rattle.crash_disk.specs.declared.outcome.Outcome.{Outcome}
use Rattle.plasma_tx.specs.{declared.body.Body.{Body}, declared.call.RootCall.{RootCall}, Shown.{Tests, Rules}}
use Rattle.node_rules.specs.WalletOpening.{is_wallet}
use Rattle.world_rules.specs.{World.{Node, wallet_of}, Events.{Event, Other}, Orders.{node_does}, OrderEvents.{event_of}, Steps.{without_offers}}
use Rattle.node_replies.specs.{declared.given.Given.{Given}, Given.{IsGiven}, declared.order.WalletOrder.{WalletOrder}, declared.order.WatcherOrder.{WatcherOrder}, declared.order.OperatorOrder.{OperatorOrder}}
use Rattle.node_replies.specs.declared.order.NodeOrder.{NodeOrder}
use Rattle.world_nodes.specs.Cuts.{is_kept, is_stopped, kept_record}
use Rattle.world_trace.specs.{declared.event.LineEvent.{LineEvent}, Events.{IsEvent}}

-- a leaf of wallet n binds the body that was found, where one was
abbrev pub bound_event : ℕ → Option Body → LineEvent
bound_event n None = LineEvent.Other n
bound_event n (Some body) = LineEvent.Binds n body

-- the order leaves nothing but offers
abbrev pub is_offering : NodeOrder → Bool
is_offering (NodeOrder.Wallet WalletOrder.Watch) = true
is_offering (NodeOrder.Watcher WatcherOrder.Watch) = true
is_offering (NodeOrder.Operator OperatorOrder.Seal) = true
is_offering order = false

-- no call joins a log by it
abbrev pub IsNodeEvent : Event → LineEvent → Type 0
IsNodeEvent event told = (tests : Tests) (rules : Rules) (log : List RootCall) → IsEvent tests rules log event told

-- the event is that of the order, at whatever node with this number, which gave this
abbrev pub TellsGiven : ℕ → NodeOrder → Given → LineEvent → Type 0
TellsGiven n order given event = (dig : List ℕ → List ℕ) (log : List RootCall) (node : Node)
    → IsGiven (node_does dig log node order).response given
    → IsNodeEvent (event_of n order (node_does dig log node order).response) event

-- the same of an order that was done before a crash, after which the node offers nothing
abbrev pub TellsFinished : ℕ → NodeOrder → Given → LineEvent → Type 0
TellsFinished n order given event = (dig : List ℕ → List ℕ) (log : List RootCall) (node : Node)
    → IsGiven (node_does dig log node order).response given
    → IsNodeEvent (without_offers n (event_of n order (node_does dig log node order).response)) event

-- the event of an order of node n that was stopped
abbrev pub event_stopped : (List ℕ → List ℕ) → List RootCall → ℕ → Node → ℕ → Outcome → NodeOrder → Event
event_stopped dig log n node calls outcome order =
    if is_kept calls outcome order then without_offers n (event_of n order (node_does dig log node order).response)
    else Other n

-- a wallet's order is one of a node with a wallet's records
abbrev pub HasRecords : (List ℕ → List ℕ) → Node → NodeOrder → Type 0
HasRecords dig node (NodeOrder.Wallet order) = is_wallet dig (wallet_of node) ≡ true
HasRecords dig node order = Unit {0}

-- the event is that of each order of node n that was stopped, of which this record is kept, or none
abbrev pub TellsStopped : ℕ → NodeOrder → Option (List ℕ) → LineEvent → Type 0
TellsStopped n order kept event =
    (dig : List ℕ → List ℕ) (log : List RootCall) (node : Node) (calls : ℕ) (outcome : Outcome)
    → HasRecords dig node order
    → is_stopped calls node order (node_does dig log node order) ≡ true
    → kept ≡ kept_record calls outcome order (node_does dig log node order)
    → IsNodeEvent (event_stopped dig log n node calls outcome order) event
