use Rattle.std.proofs.Common.{sym, ap, ◌∙◌}
use Rattle.std.specs.List.{position}
use Rattle.world_scene.specs.Names.{is_named_view}
use Rattle.world_scene.proofs.Views.{number_of_view}
use Rattle.world_scene.proofs.scene.Scene.number_of.Goals as goal

pub returns : goal.returns
returns g c =
    c.place_of.ensures.place
    ∙ ap (λ scene. position (is_named_view c.args.may c.args.name.now) scene.nodes) c.self.view_is
    ∙ sym (number_of_view c.args.self.now c.args.may c.args.name.now)
