-- What an act does to the nodes, and the one theorem of what holds of each: its own node keeps it, the others stay, and
-- a new one has it.
use Rattle.world_rules.proofs.Basics.{◌≡◌, ◌≢◌, ℕ, List, [], ◌∷◌, ◌++◌, length, Option, Some, None, subst, arith, set, slice_get, cases_eq, slice_get_past, common_steps}
use Rattle.world_rules.proofs.NodeWords.{watcher_text, wallet_text}
use Rattle.world_rules.proofs.WorldWords.{Wallet, Watcher, Node, World, new_node, after_crash, Place, NewWallet, NewWatcher, Act, Adds, Orders, Crashes, end_of, node_after, deed_at, done, IsActIn}
use Rattle.world_rules.proofs.Runs.{set-same, set-other, push-same, push-other}

-- ---- what changes

-- no node changes; or the one there becomes this one; or one is new
pub data Change : Type 0 where
  NoNode : Change
  OneNode : Place → Node → Change
  NewNode : Node → Change

abbrev pub change_of : (List ℕ → List ℕ) → World → Act → Change
change_of dig world (Adds name (NewWallet who)) = NewNode (new_node Wallet name who.account (wallet_text who))
change_of dig world (Adds name (NewWatcher account)) =
    NewNode (new_node Watcher name account (watcher_text (record { tag = world.chain.tag; account = account })))
change_of dig world (Orders place order cut) =
    let deed = deed_at dig world place order in
    OneNode place (node_after place.node deed (end_of cut place.node order deed))
change_of dig world (Crashes place) = OneNode place (after_crash place.node)
change_of dig world act = NoNode

abbrev pub nodes_after : Change → List Node → List Node
nodes_after NoNode nodes = nodes
nodes_after (OneNode place after) nodes = set nodes place.number after
nodes_after (NewNode node) nodes = nodes ++ node ∷ []

-- the nodes after an act
pub nodes-done : (dig : List ℕ → List ℕ) (world : World) (act : Act)
    → (done dig world act).world.nodes ≡ nodes_after (change_of dig world act) world.nodes
unfolding done
nodes-done dig world act = grind (arith, common_steps)

-- the node that changes is there
abbrev pub IsOld : List Node → Change → Type 0
IsOld nodes (OneNode place after) = slice_get nodes place.number ≡ Some place.node
IsOld nodes change = Unit {0}

pub is-old : (dig : List ℕ → List ℕ) (world : World) (act : Act) → IsActIn world act
    → IsOld world.nodes (change_of dig world act)
is-old dig world act known = grind (arith, common_steps)

-- ---- what each node keeps

-- what holds of each number, and of the node that has it, where there is one
abbrev pub EachNode : (ℕ → Option Node → Type 0) → List Node → Type 0
EachNode P nodes = (n : ℕ) → P n (slice_get nodes n)

-- the number isn't that of the node which changes, or is new
abbrev pub IsOther : List Node → Change → ℕ → Type 0
IsOther nodes NoNode m = Unit {0}
IsOther nodes (OneNode place after) m = place.number ≢ m
IsOther nodes (NewNode node) m = length nodes ≢ m

-- the node which changes has what it had, and a new one has it
abbrev pub IsKeptOwn : (ℕ → Option Node → Type 0) → (ℕ → Option Node → Type 0) → List Node → Change → Type 0
IsKeptOwn P Q nodes NoNode = Unit {0}
IsKeptOwn P Q nodes (OneNode place after) = P place.number (Some place.node) → Q place.number (Some after)
IsKeptOwn P Q nodes (NewNode node) = P (length nodes) None → Q (length nodes) (Some node)

-- a change keeps it
pub record IsKeptBy (P Q : ℕ → Option Node → Type 0) (nodes : List Node) (change : Change) : Type 0 where
  pub others : (m : ℕ) → IsOther nodes change m → (found : Option Node) → P m found → Q m found
  pub own : IsKeptOwn P Q nodes change

module _ (P Q : ℕ → Option Node → Type 0) (nodes : List Node) (each : EachNode P nodes) where
  change-keeps : (change : Change) → IsOld nodes change → IsKeptBy P Q nodes change
      → EachNode Q (nodes_after change nodes)
  change-keeps change old keeps n =
      grind (arith, common_steps, cases_eq, set-same, set-other, push-same, slice_get_past, push-other)

-- what holds of each node holds of each after an act that keeps it
pub each_node_keeps : (P Q : ℕ → Option Node → Type 0) (dig : List ℕ → List ℕ) (world : World) (act : Act)
    → IsActIn world act → EachNode P world.nodes → IsKeptBy P Q world.nodes (change_of dig world act)
    → EachNode Q (done dig world act).world.nodes
each_node_keeps P Q dig world act known each keeps = grind (arith, common_steps, nodes-done, change-keeps, is-old)

-- ---- of the nodes that are there

-- what holds of each node that is there
abbrev pub IfThere : (ℕ → Node → Type 0) → ℕ → Option Node → Type 0
IfThere Q n None = Unit {0}
IfThere Q n (Some node) = Q n node

pub node-there : (Q : ℕ → Node → Type 0) (nodes : List Node) → EachNode (IfThere Q) nodes → (n : ℕ) (node : Node)
    → slice_get nodes n ≡ Some node → Q n node
node-there Q nodes each n node is = subst (IfThere Q n) is (each n)

pub others-there : (Q R : ℕ → Node → Type 0) (nodes : List Node) (change : Change)
    → ((m : ℕ) → IsOther nodes change m → (node : Node) → Q m node → R m node)
    → (m : ℕ) → IsOther nodes change m → (found : Option Node) → IfThere Q m found → IfThere R m found
others-there Q R nodes change others m other found holds = grind (arith, common_steps)
