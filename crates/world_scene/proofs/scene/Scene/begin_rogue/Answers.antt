use Rattle.std.proofs.Common.{sym, ap, ◌∙◌}
use Rattle.world_rules.specs.World.{rogue_named}
use Rattle.world_rules.specs.Declarations.{is_used}
use Rattle.world_scene.specs.Scenes.{world_of}
use Rattle.world_scene.proofs.Growth.{other_begun, unused_rogue}
use Rattle.world_scene.proofs.scene.Scene.begin_rogue.Goals as goal

pub add_rogue-requires : goal.add_rogue-requires
add_rogue-requires g c =
    let world = world_of c.args.self.now in
    ap (λ scene. rogue_named (world_of scene) c.new-rogue.result.name) c.in_ok-place.ensures
    ∙ ap (λ rogue. rogue_named world rogue.name) c.new-rogue.ensures
    ∙ ap (rogue_named world) c.in_ok-name.ensures
    ∙ unused_rogue world c.args.name.now
    (ap (is_used world) (sym c.as_slice.ensures) ∙ sym c.is_used.ensures ∙ c.if-is_used.false)

pub returns-clause-keeps : goal.returns-clause-keeps
returns-clause-keeps g c =
    let world = world_of c.args.self.now in
    other_begun world c.args.name.now c.args.who.now.account
    (ap (is_used world) (sym c.as_slice.ensures) ∙ sym c.is_used.ensures ∙ c.if-is_used.false)
    (sym c.is_wallet_account.ensures ∙ c.if-is_wallet_account.false)
