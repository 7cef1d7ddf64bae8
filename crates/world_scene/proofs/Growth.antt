-- A world with one more node.
use Rattle.world_scene.proofs.Words.{◌≡◌, refl, sym, subst, ap, ◌∙◌, ℕ, nat_lt, Bool, true, false, not, ◌&&◌, ◌||◌, length, take, List, [], ◌∷◌, ◌++◌, map, Option, Some, None, is_some, All, position, map-append, take-append_seam, owner_of, Chain, LineEvent, Reply, World, Node, Rogue, any_role, rogue_named, may_be_wallet, may_be_other, is_used, is_declared, is_wallet_account, is_new_name, wallet_nodes, is_declared_account, is_caller, is_wallet_key, is_wallet_seed, with_new_node, declares_watcher, operator_node, new_world, NodeView, Spells, new_watcher, SceneState, world_of, node_in, shown_of, Roles, is_named_view, may_begin, NodesStay, NodesGrow, AllSpell, answered}
use Rattle.node_rules.specs.declared.identity.WalletIdentity.{WalletIdentity}
use Rattle.world_rules.specs.declared.TheConstants.{MOST_WALLETS}
use Rattle.world_scene.specs.declared.answer.LineAnswer.{LineAnswer}
use Rattle.world_scene.proofs.Views.{number_of_view}

not_all : (a b k s : Bool) → (a && b && not s) ≡ false → (a && b && not (k || s)) ≡ false
not_all false b k s no_one = refl
not_all true false k s no_one = refl
not_all true true false s no_one = no_one
not_all true true true s no_one = refl

all_but : (a b k s : Bool) → (a && b && not s) ≡ true → k ≡ false → (a && b && not (k || s)) ≡ true
all_but a b false s may free = may
all_but a b true s may free = absurd (cc free)

key_taken : (a b k s : Bool) → k ≡ true → (a && b && not (k || s)) ≡ false
key_taken false b k s taken = refl
key_taken true false k s taken = refl
key_taken true true true s taken = refl
key_taken true true false s taken = absurd (cc taken)

-- its world is the one with that node
pub added_node : {H : Type 0} (scene : SceneState H) (view : NodeView H)
    → world_of (record scene { nodes = scene.nodes ++ view ∷ [] }) ≡ with_new_node (world_of scene) view.node
added_node scene view =
    ap (λ nodes. record (world_of scene) { nodes = nodes }) (map-append node_in scene.nodes (view ∷ []))

module _ {H : Type 0} (old mid : SceneState H) (nodes : List (NodeView H)) (view : NodeView H) (is : mid ≡ old)
    (more : nodes ≡ mid.nodes ++ view ∷ []) where
  grown : record mid { nodes = nodes } ≡ record old { nodes = old.nodes ++ view ∷ [] }
  grown =
      ap (λ items. record mid { nodes = items }) more
      ∙ ap (λ (scene : SceneState H). record scene { nodes = scene.nodes ++ view ∷ [] }) is

  -- nodes with one more are those of the world with that node, and those before it stay
  pub grown_world : world_of (record mid { nodes = nodes }) ≡ with_new_node (world_of old) view.node
  grown_world = ap (world_of {H = H}) grown ∙ added_node old view

  pub grown_nodes : NodesGrow old (record mid { nodes = nodes })
  grown_nodes = record {
    nodes = ap (λ (scene : SceneState H). take (length old.nodes) scene.nodes) grown
        ∙ take-append_seam old.nodes (view ∷ []);
    hash = ap (λ (scene : SceneState H). scene.hash) grown;
  }

-- a watcher that was declared shows as the definitions have it
pub watcher_shows : (world : World) (name : List ℕ) (account : ℕ) (answer : LineAnswer) (node : Node) (new : World)
    → answer ≡ record { done = false; reply = Reply.Watcher; made = []; event = LineEvent.Idle }
    → new ≡ with_new_node world node → node ≡ new_watcher name world.chain.tag account
    → shown_of (declares_watcher world name account) ≡ answered answer new
watcher_shows world name account answer node new gives grows is =
    sym (ap (λ given. answered given new) gives
    ∙ ap (answered (record { done = false; reply = Reply.Watcher; made = []; event = LineEvent.Idle }))
    (grows ∙ ap (with_new_node world) is))

-- the world that begins
pub begins : {H : Type 0} (chain made : Chain) (views : List (NodeView H)) (view : NodeView H) (rogues : List Rogue)
    (callers : List ℕ) (mail : List (List ℕ))
    → made ≡ chain → views ≡ view ∷ [] → view.node ≡ operator_node chain → rogues ≡ [] → callers ≡ [] → mail ≡ []
    → ◌≡◌ {A = World}
    (record { chain = made; nodes = map node_in views; rogues = rogues; raw_callers = callers; mail = mail })
    (new_world chain)
begins chain made views view rogues callers mail is one node none_named none_called none_made =
    ap (λ c. record {
      chain = c;
      nodes = map node_in views;
      rogues = rogues;
      raw_callers = callers;
      mail = mail;
    }) is
    ∙ ap (λ nodes. record (new_world chain) {
      nodes = nodes;
      rogues = rogues;
      raw_callers = callers;
      mail = mail;
    }) (ap (map node_in) one ∙ ap (λ first. first ∷ []) node)
    ∙ ap (λ named. record (new_world chain) { rogues = named; raw_callers = callers; mail = mail }) none_named
    ∙ ap (λ called. record (new_world chain) { raw_callers = called; mail = mail }) none_called
    ∙ ap (λ items. record (new_world chain) { mail = items }) none_made

-- ---- new names

no_place : (place : Option ℕ) → is_some place ≡ false → place ≡ None
no_place None none = refl
no_place (Some n) none = absurd (cc none)

no_rogue : (rogue : Option Rogue) → is_some rogue ≡ false → rogue ≡ None
no_rogue None none = refl
no_rogue (Some rogue) none = absurd (cc none)

neither : (a b : Bool) → (a || b) ≡ false → (a ≡ false) × (b ≡ false)
neither false b is = (refl, is)
neither true b is = absurd (cc is)

new_of : (a b c d : Bool) → ((not a && b) && c && d) ≡ true → a ≡ false
new_of false b c d is = refl
new_of true b c d is = absurd (cc is)

-- no node has a name that isn't declared
pub not_declared : {H : Type 0} (scene : SceneState H) (name : List ℕ)
    → is_declared any_role (world_of scene) name ≡ false
    → position (is_named_view Roles.Any name) scene.nodes ≡ None
not_declared scene name unused =
    no_place (position (is_named_view Roles.Any name) scene.nodes)
    (sym (ap is_some (number_of_view scene Roles.Any name)) ∙ unused)

-- a name that isn't used is no node's, and no rogue's
pub unused_node : (world : World) (name : List ℕ) → is_used world name ≡ false
    → is_declared any_role world name ≡ false
unused_node world name unused =
    (neither (is_declared any_role world name) (is_some (rogue_named world name)) unused).0

pub unused_rogue : (world : World) (name : List ℕ) → is_used world name ≡ false → rogue_named world name ≡ None
unused_rogue world name unused =
    no_rogue (rogue_named world name)
    (neither (is_declared any_role world name) (is_some (rogue_named world name)) unused).1

-- the name of a wallet that may begin isn't used
pub begins_unused : (world : World) (name : List ℕ) (who : WalletIdentity) → may_begin world name who ≡ true
    → is_used world name ≡ false
begins_unused world name who =
    new_of (is_used world name) (nat_lt (length (wallet_nodes world)) MOST_WALLETS)
    (not (is_declared_account world who.account || is_caller world who.account))
    (not (is_wallet_seed world who.seed))

-- a wallet that may not begin may not be declared
pub not_begun : (world : World) (name : List ℕ) (who : WalletIdentity)
    → may_begin world name who ≡ false → may_be_wallet world name who ≡ false
not_begun world name who =
    not_all (is_new_name world name && nat_lt (length (wallet_nodes world)) MOST_WALLETS)
    (not (is_declared_account world who.account || is_caller world who.account))
    (is_wallet_key world (owner_of who).key) (is_wallet_seed world who.seed)

-- one that may begin may be declared, where no wallet has its key, and else may not
pub begun : (world : World) (name : List ℕ) (who : WalletIdentity) → may_begin world name who ≡ true
    → is_wallet_key world (owner_of who).key ≡ false → may_be_wallet world name who ≡ true
begun world name who =
    all_but (is_new_name world name && nat_lt (length (wallet_nodes world)) MOST_WALLETS)
    (not (is_declared_account world who.account || is_caller world who.account))
    (is_wallet_key world (owner_of who).key) (is_wallet_seed world who.seed)

pub taken : (world : World) (name : List ℕ) (who : WalletIdentity)
    → is_wallet_key world (owner_of who).key ≡ true → may_be_wallet world name who ≡ false
taken world name who =
    key_taken (is_new_name world name && nat_lt (length (wallet_nodes world)) MOST_WALLETS)
    (not (is_declared_account world who.account || is_caller world who.account))
    (is_wallet_key world (owner_of who).key) (is_wallet_seed world who.seed)

-- another node or a rogue may be declared, where its name is new and no wallet has its account
pub other_begun : (world : World) (name : List ℕ) (account : ℕ) → is_used world name ≡ false
    → is_wallet_account world account ≡ false → may_be_other world name account ≡ true
other_begun world name account unused free =
    ap (λ b. not b && not (is_wallet_account world account)) unused ∙ ap not free

-- nodes that stay keep their records
pub stays_spell : {H : Type 0} (old new : SceneState H) → NodesStay old new → AllSpell old → AllSpell new
stays_spell old new stay all = subst (λ nodes. All Spells nodes) (sym stay.nodes) all
