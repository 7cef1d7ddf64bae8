use Rattle.std.proofs.Common.{sym, ap, ◌∙◌}
use Rattle.world_rules.specs.World.{any_role}
use Rattle.world_rules.specs.Declarations.{is_declared, is_wallet_key}
use Rattle.node_rules.specs.WalletRecords.{owner_of}
use Rattle.world_scene.specs.Scenes.{world_of}
use Rattle.world_scene.specs.Steps.{may_begin}
use Rattle.world_scene.proofs.Growth.{not_begun, begun, taken, unused_node, begins_unused}
use Rattle.world_scene.proofs.scene.Scene.begin_wallet.Goals as goal

pub add_node-requires-clause-new : goal.add_node-requires-clause-new
add_node-requires-clause-new g c =
    let world = world_of c.args.self.now in
    ap (λ node. is_declared any_role world node.name) c.in_ok-entry.ensures.node
    ∙ ap (is_declared any_role world) c.in_ok-name.ensures
    ∙ unused_node world c.args.name.now
    (begins_unused world c.args.name.now c.args.who.now
    (ap (λ name. may_begin world name c.args.who.now) (sym c.as_slice.ensures) ∙ sym c.may_begin.ensures
    ∙ c.if-not-may_begin.false))

pub returns-then-not-may_begin-clause-bad : goal.returns-then-not-may_begin-clause-bad
returns-then-not-may_begin-clause-bad g c _ =
    let world = world_of c.args.self.now in
    not_begun world c.args.name.now c.args.who.now
    (ap (λ name. may_begin world name c.args.who.now) (sym c.as_slice.ensures) ∙ sym c.may_begin.ensures
    ∙ c.if-not-may_begin.true)

pub returns-then-has_key_of-clause-bad : goal.returns-then-has_key_of-clause-bad
returns-then-has_key_of-clause-bad g c _ =
    let world = world_of c.args.self.now in
    taken world c.args.name.now c.args.who.now
    (ap (λ who. is_wallet_key world (owner_of who).key) (sym c.in_ok-entry.ensures.who)
    ∙ sym c.has_key_of.ensures ∙ c.if-has_key_of.true)

pub returns-clause-keeps : goal.returns-clause-keeps
returns-clause-keeps g c =
    let world = world_of c.args.self.now in
    begun world c.args.name.now c.args.who.now
    (ap (λ name. may_begin world name c.args.who.now) (sym c.as_slice.ensures) ∙ sym c.may_begin.ensures
    ∙ c.if-not-may_begin.false)
    (ap (λ who. is_wallet_key world (owner_of who).key) (sym c.in_ok-entry.ensures.who)
    ∙ sym c.has_key_of.ensures ∙ c.if-has_key_of.false)
