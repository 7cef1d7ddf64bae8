-- How an order's event is told: by the answer and the bytes that it gave, or by the record that a crash left of it.
use Rattle.std.specs.Prelude.{◌≡◌, ℕ, List, length}
use Rattle.node_replies.specs.{declared.reply.Reply.{Reply}, declared.given.Given.{Given}, declared.order.WalletOrder.{WalletOrder}, declared.order.WatcherOrder.{WatcherOrder}, declared.order.OperatorOrder.{OperatorOrder}}
use Rattle.world_rules.specs.OrderEvents.{bundle_read}
use Rattle.node_replies.specs.declared.order.NodeOrder.{NodeOrder}
use Rattle.world_trace.specs.{declared.event.LineEvent.{LineEvent}, Events.{IsWatch}, Orders.{bound_event}, Reading.{body_found, message_in, leaf_at_end}}

-- of a wallet's order but a watch, by its answer and the bytes that it made
abbrev pub wallet_told : ℕ → WalletOrder → Reply → List ℕ → LineEvent
wallet_told n (WalletOrder.Accept bundle) (Reply.Accepted coin tip) made = LineEvent.Accepts n (bundle_read bundle)
wallet_told n (WalletOrder.Send coin to last) (Reply.Sent leaf) made = bound_event n (body_found made)
wallet_told n (WalletOrder.Reclaim bundle) (Reply.Reclaimed coin leaf) made =
    LineEvent.TakesBack n leaf (bundle_read bundle)
wallet_told n order reply made = LineEvent.Other n

-- of a watcher's order but a watch
abbrev pub watcher_told : ℕ → WatcherOrder → Reply → LineEvent
watcher_told n (WatcherOrder.Guard bundle) (Reply.Guarded coin tip) = LineEvent.Guards n (bundle_read bundle)
watcher_told n (WatcherOrder.Release coin tip) Reply.Released = LineEvent.Releases n coin tip
watcher_told n order reply = LineEvent.Other n

-- of the operator's order
abbrev pub operator_told : ℕ → OperatorOrder → Reply → LineEvent
operator_told n OperatorOrder.Seal (Reply.Sealed leaves) = LineEvent.Other 0
operator_told n order reply = LineEvent.Other n

-- of an order that was done: a watch is told by what it offers
abbrev pub IsTold : ℕ → NodeOrder → Given → LineEvent → Type 0
IsTold n (NodeOrder.Wallet WalletOrder.Watch) given event = IsWatch n given.offers.items event
IsTold n (NodeOrder.Wallet order) given event = event ≡ wallet_told n order given.reply given.made
IsTold n (NodeOrder.Watcher WatcherOrder.Watch) given event = IsWatch n given.offers.items event
IsTold n (NodeOrder.Watcher order) given event = event ≡ watcher_told n order given.reply
IsTold n (NodeOrder.Operator order) given event = event ≡ operator_told n order given.reply
IsTold n NodeOrder.Open given event = event ≡ LineEvent.Other n

-- of an order of which this record is kept
abbrev pub kept_told : ℕ → NodeOrder → List ℕ → LineEvent
kept_told n (NodeOrder.Wallet (WalletOrder.Accept bundle)) bytes = LineEvent.Accepts n (bundle_read bundle)
kept_told n (NodeOrder.Wallet (WalletOrder.Send coin to last)) bytes = bound_event n (body_found (message_in bytes))
kept_told n (NodeOrder.Wallet (WalletOrder.Reclaim bundle)) bytes =
    LineEvent.TakesBack n (leaf_at_end bytes) (bundle_read bundle)
kept_told n (NodeOrder.Watcher (WatcherOrder.Guard bundle)) bytes = LineEvent.Guards n (bundle_read bundle)
kept_told n (NodeOrder.Watcher (WatcherOrder.Release coin tip)) bytes = LineEvent.Releases n coin tip
kept_told n order bytes = LineEvent.Other n

-- the key that an order sends to has its 56 bytes
abbrev pub HasKey : NodeOrder → Type 0
HasKey (NodeOrder.Wallet (WalletOrder.Send coin to last)) = length to.key ≡ 56
HasKey order = Unit {0}
