-- Which order of a node a command is, once its tokens are looked up in the world, and what orders of the world's nodes
-- do.
use Rattle.std.specs.Prelude.{ℕ, ◌-◌, Bool, true, false, List, length, Option, Some, None, option_map}
use Rattle.leaf_journal.specs.Records.{messages_of}
use Rattle.plasma_tx.specs.declared.call.RootCall.{RootCall}
use Rattle.schedule_text.specs.{declared.command.Command.{Command}, declared.command.WalletCommand.{WalletCommand}, declared.command.WatcherCommand.{WatcherCommand}, declared.command.OperatorCommand.{OperatorCommand}}
use Rattle.node_replies.specs.{declared.reply.Reply.{Reply}, declared.order.WalletOrder.{WalletOrder}, declared.order.WatcherOrder.{WatcherOrder}, declared.order.OperatorOrder.{OperatorOrder}, declared.order.NodeOrder.{NodeOrder}}
use Rattle.node_replies.specs.Orders.{Response, Doing, says, without_record, wallet_does, watcher_does, operator_does}
use Rattle.world_rules.specs.World.{Role, Wallet, Watcher, Operator, Node, World, wallet_of, bytes_of, new_owner_of}

-- ---- which order a command is

-- the order that a wallet's own command is; None where it names an owner whom nobody declared
abbrev pub wallet_order : World → WalletCommand → Option WalletOrder
wallet_order world (WalletCommand.Accept bundle) = Some (WalletOrder.Accept (bytes_of world bundle))
wallet_order world (WalletCommand.Send coin to last) =
    option_map (λ owner. WalletOrder.Send coin owner last) (new_owner_of world to)
wallet_order world (WalletCommand.Again coin) = Some (WalletOrder.Again coin)
wallet_order world (WalletCommand.Leave coin) = Some (WalletOrder.Leave coin)
wallet_order world (WalletCommand.Reclaim bundle) = Some (WalletOrder.Reclaim (bytes_of world bundle))
wallet_order world WalletCommand.Migrate = Some WalletOrder.Migrate

-- the order that a watcher's own command is
abbrev pub watcher_order : World → WatcherCommand → WatcherOrder
watcher_order world (WatcherCommand.Guard bundle) = WatcherOrder.Guard (bytes_of world bundle)
watcher_order world (WatcherCommand.Release coin tip) = WatcherOrder.Release coin tip

-- the order that a command of the operator is
abbrev pub operator_order : World → OperatorCommand → OperatorOrder
operator_order world (OperatorCommand.Offer transfer) = OperatorOrder.Offer (bytes_of world transfer)
operator_order world (OperatorCommand.Lay coin leaf) = OperatorOrder.Lay coin (bytes_of world leaf)
operator_order world OperatorCommand.Seal = OperatorOrder.Seal
operator_order world (OperatorCommand.Bundle coin tip) = OperatorOrder.Bundle coin tip
operator_order world (OperatorCommand.Prove coin block) = OperatorOrder.Prove coin block
operator_order world (OperatorCommand.Absences coin after last) = OperatorOrder.Absences coin after last

-- the order that a watch is at a node of a role; the operator watches nothing
abbrev pub watch_order : Role → Option NodeOrder
watch_order Wallet = Some (NodeOrder.Wallet WalletOrder.Watch)
watch_order Watcher = Some (NodeOrder.Watcher WatcherOrder.Watch)
watch_order Operator = None

-- The order that a command is at a node of a role. None where it names what nobody declared, and for a watch of the
-- operator.
unfoldable pub order_of : World → Role → Command → Option NodeOrder
order_of world role (Command.Wallet name command) = option_map NodeOrder.Wallet (wallet_order world command)
order_of world role (Command.Watcher name command) = Some (NodeOrder.Watcher (watcher_order world command))
order_of world role (Command.Operator command) = Some (NodeOrder.Operator (operator_order world command))
order_of world role (Command.Watch name) = watch_order role
order_of world role (Command.Open name) = Some NodeOrder.Open

-- ---- what an order does

-- a node that is opened: how many records it has without its identity, and how many leaves bind a message
abbrev pub opened : Node → Response
opened node = says (Reply.Opened (length node.notes - 1) (length (messages_of node.leaves)))

abbrev pub on_open : Node → Bool → Response
on_open node false = opened node
on_open node true = says Reply.Up

-- what an order of a node of the world does
abbrev pub node_does : (List ℕ → List ℕ) → List RootCall → Node → NodeOrder → Doing
node_does dig log node (NodeOrder.Wallet order) = wallet_does dig log (wallet_of node) order
node_does dig log node (NodeOrder.Watcher order) = watcher_does dig log node.notes order
node_does dig log node (NodeOrder.Operator order) = operator_does dig log node.notes order
node_does dig log node NodeOrder.Open = without_record (on_open node node.is_up)
