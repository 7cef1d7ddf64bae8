-- The event that an order of a node is, by what it gave out.
use Rattle.std.specs.Prelude.{ℕ, List, [], ◌∷◌, unwrap_or}
use Rattle.std.specs.Result.{result_ok}
use Rattle.plasma_tx.specs.{declared.call.RootCall.{RootCall}, Spelling.{body_at_start}}
use Rattle.coin_history.specs.{declared.bundle.Bundle.{Bundle}, Bundles.{bundle_in}}
use Rattle.node_replies.specs.{declared.reply.Reply.{Reply}, declared.order.WalletOrder.{WalletOrder}, declared.order.WatcherOrder.{WatcherOrder}, declared.order.OperatorOrder.{OperatorOrder}, declared.order.NodeOrder.{NodeOrder}}
use Rattle.node_replies.specs.Orders.{Response}
use Rattle.world_rules.specs.Events.{Event, Accepts, Guards, Releases, Binds, TakesBack, Watches, Leaves, Seals, Other}

-- the bundle that bytes spell; an empty one where they spell none, which no node takes
abbrev pub bundle_read : List ℕ → Bundle
bundle_read bytes = unwrap_or (result_ok (bundle_in bytes)) (record { coin = 0; tip = 0; openings = [] })

-- an order that is refused is none of the named events
abbrev pub unless_refused : ℕ → Reply → Event → Event
unless_refused n (Reply.Refused cause) event = Other n
unless_refused n reply event = event

-- the event of the call that is offered
abbrev pub of_offer : ℕ → (RootCall → Event) → List RootCall → Event
of_offer n event (call ∷ []) = event call
of_offer n event calls = Other n

-- the leaf that is taken back, by the answer that says so
abbrev pub leaf_of : Reply → ℕ
leaf_of (Reply.Reclaimed coin leaf) = leaf
leaf_of reply = 0

-- the event of an order of wallet n that isn't refused
abbrev pub wallet_event : ℕ → WalletOrder → Response → Event
wallet_event n (WalletOrder.Accept bundle) response = Accepts n (bundle_read bundle)
wallet_event n (WalletOrder.Send coin to last) response = Binds n (body_at_start response.made)
wallet_event n (WalletOrder.Leave coin) response = of_offer n (Leaves n) response.offers
wallet_event n (WalletOrder.Reclaim bundle) response = TakesBack n (leaf_of response.reply) (bundle_read bundle)
wallet_event n WalletOrder.Watch response = Watches n response.offers
wallet_event n order response = Other n

-- and of watcher n
abbrev pub watcher_event : ℕ → WatcherOrder → Response → Event
watcher_event n (WatcherOrder.Guard bundle) response = Guards n (bundle_read bundle)
watcher_event n (WatcherOrder.Release coin tip) response = Releases n coin tip
watcher_event n WatcherOrder.Watch response = Watches n response.offers

-- and of the operator, which is node n
abbrev pub operator_event : ℕ → OperatorOrder → Response → Event
operator_event n OperatorOrder.Seal response = of_offer n Seals response.offers
operator_event n order response = Other n

-- the event that an order of node n is, which gave this out
unfoldable pub event_of : ℕ → NodeOrder → Response → Event
event_of n (NodeOrder.Wallet order) response = unless_refused n response.reply (wallet_event n order response)
event_of n (NodeOrder.Watcher order) response = unless_refused n response.reply (watcher_event n order response)
event_of n (NodeOrder.Operator order) response = unless_refused n response.reply (operator_event n order response)
event_of n NodeOrder.Open response = Other n
