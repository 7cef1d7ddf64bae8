-- Which nodes have an order, and what holds of one that is made of bytes.
use Rattle.std.specs.Prelude.{Bool, true, false}
use Rattle.world_rules.specs.World.{Role, Wallet, Watcher, Operator}
use Rattle.node_deeds.specs.{WalletLaws.{IsFitOrder}, WatcherLaws.{HasBytes}}
use Rattle.node_replies.specs.declared.order.NodeOrder.{NodeOrder}

-- nodes of the role have the order
abbrev pub fits : Role → NodeOrder → Bool
fits Wallet (NodeOrder.Wallet order) = true
fits Watcher (NodeOrder.Watcher order) = true
fits Operator (NodeOrder.Operator order) = true
fits role NodeOrder.Open = true
fits role order = false

-- its bytes are bytes, and a key that it names has 56
abbrev pub IsFit : NodeOrder → Type 0
IsFit (NodeOrder.Wallet order) = IsFitOrder order
IsFit (NodeOrder.Watcher order) = HasBytes order
IsFit order = Unit {0}

-- the order opens the node
abbrev pub is_opening_order : NodeOrder → Bool
is_opening_order NodeOrder.Open = true
is_opening_order order = false
