use Rattle.std.proofs.Common.{sym, ap, ◌∙◌}
use Rattle.plasma_tx.specs.Chain.{Chain}
use Rattle.world_rules.specs.World.{any_role}
use Rattle.world_rules.specs.Declarations.{is_used, is_declared}
use Rattle.world_nodes.specs.Nodes.{new_watcher}
use Rattle.world_scene.specs.Scenes.{world_of}
use Rattle.world_scene.proofs.Growth.{other_begun, unused_node, watcher_shows}
use Rattle.world_scene.proofs.scene.Scene.declare_watcher.Goals as goal

pub add_node-requires-clause-new : goal.add_node-requires-clause-new
add_node-requires-clause-new g c =
    let world = world_of c.args.self.now in
    ap (λ node. is_declared any_role world node.name) c.in_ok-entry.ensures.node
    ∙ ap (is_declared any_role world) c.in_ok-name.ensures
    ∙ unused_node world c.args.name.now
    (ap (is_used world) (sym c.as_slice.ensures) ∙ sym c.is_used.ensures ∙ c.if-is_used.false)

pub returns-clause-keeps : goal.returns-clause-keeps
returns-clause-keeps g c =
    let world = world_of c.args.self.now in
    other_begun world c.args.name.now c.args.account
    (ap (is_used world) (sym c.as_slice.ensures) ∙ sym c.is_used.ensures ∙ c.if-is_used.false)
    (sym c.is_wallet_account.ensures ∙ c.if-is_wallet_account.false)

pub returns-clause-shows : goal.returns-clause-shows
returns-clause-shows g c =
    let world = world_of c.args.self.now in
    watcher_shows world c.args.name.now c.args.account c.idles.result c.in_ok-entry.entry.node
    (world_of c.add_node.new.self) c.idles.ensures c.in_ok-add_node.ensures.world
    (c.in_ok-entry.ensures.node
    ∙ ap (λ name. new_watcher name c.tag.result c.args.account) c.in_ok-name.ensures
    ∙ ap (λ tag. new_watcher c.args.name.now tag c.args.account)
    (c.tag.ensures ∙ ap (λ (chain : Chain). chain.tag) c.log.ensures.chain
    ∙ ap (λ scene. scene.chain.tag) c.self.view_is))
