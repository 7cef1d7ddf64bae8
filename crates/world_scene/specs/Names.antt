-- Whom a line may name.
use Rattle.std.specs.Prelude.{◌==◌, ◌&&◌, Bool, true, false, List, ℕ}
use Rattle.std.specs.Str.{bytes_eq}
use Rattle.plasma_tx.specs.declared.owner.Owner.{Owner}
use Rattle.node_rules.specs.WalletRecords.{who_is}
use Rattle.world_rules.specs.World.{Role, Rogue, owner_of_node, any_role, is_wallet_role, is_watcher_role, is_operator_role, does_watch, is_named}
use Rattle.world_nodes.specs.{declared.order.NodeKind.{NodeKind}, Nodes.{NodeView}}
use Rattle.world_scene.specs.declared.names.Roles.{Roles}

-- the roles that pass
abbrev pub passes : Roles → Role → Bool
passes Roles.Any = any_role
passes Roles.Wallets = is_wallet_role
passes Roles.Watchers = is_watcher_role
passes Roles.Operators = is_operator_role
passes Roles.Watching = does_watch

-- the same of what kind of node it is
abbrev pub has_kind : Roles → NodeKind → Bool
has_kind Roles.Any kind = true
has_kind Roles.Wallets NodeKind.Wallet = true
has_kind Roles.Wallets kind = false
has_kind Roles.Watchers NodeKind.Watcher = true
has_kind Roles.Watchers kind = false
has_kind Roles.Operators NodeKind.Operator = true
has_kind Roles.Operators kind = false
has_kind Roles.Watching NodeKind.Operator = false
has_kind Roles.Watching kind = true

-- the node of a view has the name, and a role that passes
abbrev pub is_named_view : {H : Type 0} → Roles → List ℕ → NodeView H → Bool
is_named_view may name view = is_named (passes may) name view.node

-- the rogue has the name
abbrev pub is_named_rogue : List ℕ → Rogue → Bool
is_named_rogue name rogue = bytes_eq rogue.name name

-- who a wallet is, of its view
abbrev pub owner_in_view : {H : Type 0} → NodeView H → Owner
owner_in_view view = owner_of_node view.node

-- ---- rules of declarations, of a node's view

-- the node is a wallet with this account; with this key; with this seed
abbrev pub is_wallet_view : {H : Type 0} → NodeView H → Bool
is_wallet_view view = is_wallet_role view.node.role

abbrev pub is_wallet_with : {H : Type 0} → ℕ → NodeView H → Bool
is_wallet_with account view = is_wallet_view view && (view.node.account == account)

abbrev pub has_wallet_key : {H : Type 0} → List ℕ → NodeView H → Bool
has_wallet_key key view = is_wallet_view view && bytes_eq (owner_of_node view.node).key key

abbrev pub has_wallet_seed : {H : Type 0} → List ℕ → NodeView H → Bool
has_wallet_seed seed view = is_wallet_view view && bytes_eq (who_is view.node.notes).seed seed

-- the node has the account, and so has the rogue; it is the account of a `call` line
abbrev pub is_view_with : {H : Type 0} → ℕ → NodeView H → Bool
is_view_with account view = view.node.account == account

abbrev pub is_rogue_with : ℕ → Rogue → Bool
is_rogue_with account rogue = rogue.account == account

abbrev pub is_same_account : ℕ → ℕ → Bool
is_same_account account caller = caller == account
