-- The order of a node that a command stands for.
use Rattle.std.specs.Prelude.{◌≡◌, ◌<◌, ℕ, List, length, slice_get, Option, Some}
use Rattle.line_forms.specs.Tokens.{IsHexOrName}
use Rattle.schedule_text.specs.{declared.command.Command.{Command}, declared.command.WalletCommand.{WalletCommand}, Grammar.{node_of}}
use Rattle.world_rules.specs.{World.{World, number_of}, Orders.{order_of}, Declarations.{plays}}
use Rattle.node_replies.specs.declared.order.NodeOrder.{NodeOrder}
use Rattle.world_nodes.specs.Nodes.{NodeView}
use Rattle.world_scene.specs.Scenes.{SceneState, world_of}

-- the owner that a wallet's command names is a token of 64 bytes, or a name
abbrev pub HasOwner : WalletCommand → Type 0
HasOwner (WalletCommand.Send coin to last) = IsHexOrName 64 to
HasOwner command = Unit {0}

-- so is that of each command
abbrev pub NamesOwner : Command → Type 0
NamesOwner (Command.Wallet name command) = HasOwner command
NamesOwner command = Unit {0}

-- what the command stands for at node n
abbrev pub OrderAt : {H : Type 0} → World → List (NodeView H) → ℕ → Command → Option NodeOrder → Type 0
OrderAt {H} world nodes n command order =
    (view : NodeView H) → slice_get nodes n ≡ Some view → order_of world view.node.role command ≡ order

-- a command names node n, and this is its order there
pub record IsChosen {H : Type 0} (scene : SceneState H) (command : Command) (n : ℕ) (order : NodeOrder) : Type 0 where
  pub inside : n < length scene.nodes
  pub found : number_of (plays command) (world_of scene) (node_of command) ≡ Some n
  pub ordered : OrderAt (world_of scene) scene.nodes n command (Some order)
