-- What a line does to the world in memory.
use Rattle.std.specs.Prelude.{◌≡◌, ℕ, ◌&&◌, ◌||◌, not, nat_lt, Bool, true, false, List, [], ◌∷◌, ◌++◌, length, take, set, slice_get, Option, Some}
use Rattle.std.specs.List.{All}
use Rattle.crash_disk.specs.declared.outcome.Outcome.{Outcome}
use Rattle.plasma_tx.specs.declared.call.RootCall.{RootCall}
use Rattle.node_replies.specs.{declared.reply.Reply.{Reply}, declared.given.Given.{Given}, declared.order.NodeOrder.{NodeOrder}}
use Rattle.node_rules.specs.declared.identity.WalletIdentity.{WalletIdentity}
use Rattle.world_rules.specs.{declared.TheConstants.{MOST_WALLETS}, World.{Rogue, World}, Steps.{offer_numbered}, Declarations.{is_new_name, wallet_nodes, is_declared_account, is_caller, is_wallet_seed}}
use Rattle.world_nodes.specs.{declared.order.CutEnd.{CutEnd}, Cuts.{Cuts}, Orders.{fits}, Nodes.{NodeView, Spells, Runs, Crashes}}
use Rattle.world_scene.specs.{declared.answer.LineAnswer.{LineAnswer}, Scenes.{SceneState, Shown}}

-- an answer, with the world after it, as what a line shows
abbrev pub answered : LineAnswer → World → Shown
answered answer world =
    record { done = answer.done; reply = answer.reply; made = answer.made; world = world }

-- each image of a crash now of each node's disks keeps the node's records
abbrev pub AllSpell : {H : Type 0} → SceneState H → Type 0
AllSpell scene = All Spells scene.nodes

-- the nodes and their disks stay, and so does the digest
pub record NodesStay {H : Type 0} (old new : SceneState H) : Type 0 where
  pub nodes : new.nodes ≡ old.nodes
  pub hash : new.hash ≡ old.hash

-- a wallet may be declared, but for its key
abbrev pub may_begin : World → List ℕ → WalletIdentity → Bool
may_begin world name who =
    (is_new_name world name && nat_lt (length (wallet_nodes world)) MOST_WALLETS)
    && not (is_declared_account world who.account || is_caller world who.account)
    && not (is_wallet_seed world who.seed)

-- the nodes that were there and their disks stay, in front of those that were declared since; and so does the digest
pub record NodesGrow {H : Type 0} (old new : SceneState H) : Type 0 where
  pub nodes : take (length old.nodes) new.nodes ≡ old.nodes
  pub hash : new.hash ≡ old.hash

-- the world with one more rogue
abbrev pub with_new_rogue : {H : Type 0} → SceneState H → Rogue → SceneState H
with_new_rogue scene rogue = record scene { rogues = scene.rogues ++ rogue ∷ [] }

-- what a command gives out, with the world after it
abbrev pub shown_by : Bool → Given → World → Shown
shown_by done given world = record { done = done; reply = given.reply; made = given.made; world = world }

-- an order of node n was run over this log, and these are the nodes before and after it; each node has a digest
pub record RunsAt {H : Type 0} (digest : H → List ℕ → List ℕ) (log : List RootCall) (n : ℕ) (order : NodeOrder)
    (old : List (NodeView H)) (given : Given) (new : List (NodeView H)) : Type 0 where
  pub before : NodeView H
  pub after : NodeView H
  pub stood : slice_get old n ≡ Some before
  pub is : new ≡ set old n after
  pub runs : Runs (digest before.hash) log order before given after

-- the order is one of node n's
abbrev pub FitsAt : {H : Type 0} → List (NodeView H) → ℕ → NodeOrder → Type 0
FitsAt {H} nodes n order = (view : NodeView H) → slice_get nodes n ≡ Some view → fits view.node.role order ≡ true

-- each node has the digest of the world
abbrev pub AllHash : {H : Type 0} → H → List (NodeView H) → Type 0
AllHash {H} hash nodes = All (λ (view : NodeView H). view.hash ≡ hash) nodes

-- the world with other nodes
abbrev pub with_nodes : {H : Type 0} → SceneState H → List (NodeView H) → SceneState H
with_nodes scene nodes = record scene { nodes = nodes }

-- node n crashed, and each of its disks with this outcome; these are the nodes before and after it
pub record CrashesAt {H : Type 0} (n : ℕ) (outcome : Outcome) (old new : List (NodeView H)) : Type 0 where
  pub before : NodeView H
  pub after : NodeView H
  pub stood : slice_get old n ≡ Some before
  pub is : new ≡ set old n after
  pub crashes : Crashes outcome before after

-- what node n offers by this number
abbrev pub OfferAt : {H : Type 0} → List (NodeView H) → ℕ → ℕ → Option RootCall → Type 0
OfferAt {H} nodes n number offer =
    (view : NodeView H) → slice_get nodes n ≡ Some view → offer_numbered number view.node ≡ offer

-- An order of node n was cut after so many device calls, over this log, and ended so; these are the nodes before and
-- after it. Each node has a digest.
pub record CutsAt {H : Type 0} (digest : H → List ℕ → List ℕ) (log : List RootCall) (n calls : ℕ) (outcome : Outcome)
    (order : NodeOrder) (old : List (NodeView H)) (end : CutEnd) (new : List (NodeView H)) : Type 0 where
  pub before : NodeView H
  pub after : NodeView H
  pub stood : slice_get old n ≡ Some before
  pub is : new ≡ set old n after
  pub cuts : Cuts (digest before.hash) log calls outcome order before end after

-- what a cut shows that ended so, with the world after it
abbrev pub shown_at_end : CutEnd → World → Shown
shown_at_end CutEnd.Down world = record { done = false; reply = Reply.Down; made = []; world = world }
shown_at_end (CutEnd.Stopped kept) world = record { done = false; reply = Reply.Stopped; made = []; world = world }
shown_at_end (CutEnd.Done given) world = shown_by true given world
