use Rattle.std.proofs.Common.{◌≡◌, sym, subst, find, None}
use Rattle.world_scene.specs.Names.{is_named_rogue}
use Rattle.world_scene.proofs.scene.Scene.add_rogue.Goals as goal

pub push-requires : goal.push-requires
push-requires g c =
    subst (λ scene. find (is_named_rogue c.args.rogue.name) scene.rogues ≡ None) (sym c.self.view_is) c.requires
