-- What is looked for among the nodes.
use Rattle.std.specs.Prelude.{Bool}
use Rattle.world_nodes.specs.Nodes.{NodeView}
use Rattle.world_scene.specs.{declared.seeking.Sought.{Sought}, Names.{has_wallet_key, has_wallet_seed, is_view_with}}

-- the node of a view is what is looked for
abbrev pub is_sought : {H : Type 0} → Sought → NodeView H → Bool
is_sought (Sought.Account account) view = is_view_with account view
is_sought (Sought.Key key) view = has_wallet_key key.now view
is_sought (Sought.Seed seed) view = has_wallet_seed seed.now view
