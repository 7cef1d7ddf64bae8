-- What a line does to the nodes' disks.
use Rattle.std.specs.Prelude.{◌≡◌, ℕ, List, Some}
use Rattle.line_forms.specs.declared.tokens.OutcomeToken.{OutcomeToken}
use Rattle.schedule_text.specs.{declared.line.Line.{Line}, declared.command.Command.{Command}}
use Rattle.world_rules.specs.{World.{any_role, number_of}, Steps.{outcome_of}}
use Rattle.node_replies.specs.{declared.given.Given.{Given}, declared.order.NodeOrder.{NodeOrder}}
use Rattle.world_nodes.specs.declared.order.CutEnd.{CutEnd}
use Rattle.world_scene.specs.{Scenes.{SceneState, world_of}, Orders.{IsChosen}, Steps.{RunsAt, CrashesAt, CutsAt, NodesStay, NodesGrow}}

-- a command names one node, whose disks make the calls of the order that it is there; all other nodes stay
pub record Commands {H : Type 0} (digest : H → List ℕ → List ℕ) (old : SceneState H) (command : Command)
    (new : SceneState H) : Type 0 where
  pub n : ℕ
  pub order : NodeOrder
  pub given : Given
  pub chosen : IsChosen old command n order
  pub runs : RunsAt digest old.chain.log n order old.nodes given new.nodes
  pub hash : new.hash ≡ old.hash

-- a crash names one node, whose disks crash; all other nodes stay
pub record Crashes {H : Type 0} (old : SceneState H) (name : List ℕ) (token : OutcomeToken) (new : SceneState H)
    : Type 0 where
  pub n : ℕ
  pub found : number_of any_role (world_of old) name ≡ Some n
  pub crashes : CrashesAt n (outcome_of token) old.nodes new.nodes
  pub hash : new.hash ≡ old.hash

-- A cut names one node, which runs the order that the command is there, of whose device calls so many pass, and whose
-- disks then crash; all other nodes stay.
pub record Cuts {H : Type 0} (digest : H → List ℕ → List ℕ) (old : SceneState H) (calls : ℕ) (token : OutcomeToken)
    (command : Command) (new : SceneState H) : Type 0 where
  pub n : ℕ
  pub order : NodeOrder
  pub end : CutEnd
  pub chosen : IsChosen old command n order
  pub cuts : CutsAt digest old.chain.log n calls (outcome_of token) order old.nodes end new.nodes
  pub hash : new.hash ≡ old.hash

-- what a line does to the nodes and their disks
abbrev pub Moves : {H : Type 0} → (H → List ℕ → List ℕ) → SceneState H → Line → SceneState H → Type 0
Moves digest old (Line.Wallet name account seed types) new = NodesGrow old new
Moves digest old (Line.Watcher name account) new = NodesGrow old new
Moves digest old (Line.Command command) new = Commands digest old command new
Moves digest old (Line.Crash node outcome) new = Crashes old node outcome new
Moves digest old (Line.Cut node calls outcome command) new = Cuts digest old calls outcome command new
Moves digest old line new = NodesStay old new
