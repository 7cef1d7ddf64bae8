-- What holds of orders to a watcher.
use Rattle.std.specs.Prelude.{◌≡◌, ℕ, true, List, None}
use Rattle.node_journal.specs.Role.{are_of}
use Rattle.plasma_tx.specs.declared.call.RootCall.{RootCall}
use Rattle.plasma_tx.specs.Spelling.{AreBytes}
use Rattle.node_rules.specs.Watcher.{watcher_kinds}
use Rattle.node_replies.specs.declared.order.WatcherOrder.{WatcherOrder}
use Rattle.node_replies.specs.Orders.{watcher_does, with_record}

-- an order adds no leaf
abbrev pub OrdersAddNoLeaf : Type 0
OrdersAddNoLeaf = (dig : List ℕ → List ℕ) (log : List RootCall) (notes : List (List ℕ)) (order : WatcherOrder)
    → (watcher_does dig log notes order).leaf ≡ None

-- the order's bytes are bytes
abbrev pub HasBytes : WatcherOrder → Type 0
HasBytes (WatcherOrder.Guard bytes) = AreBytes bytes
HasBytes order = Unit {0}

-- the records are a watcher's with what an order adds
abbrev pub OrdersKeepTheRole : Type 0
OrdersKeepTheRole = (dig : List ℕ → List ℕ) (log : List RootCall) (notes : List (List ℕ))
    (order : WatcherOrder) → are_of (watcher_kinds dig) notes ≡ true → HasBytes order
    → are_of (watcher_kinds dig) (with_record notes (watcher_does dig log notes order).note) ≡ true
