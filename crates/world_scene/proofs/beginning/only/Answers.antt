use Rattle.std.proofs.Common.{ap, ◌∙◌, [], ◌∷◌, ◌++◌}
use Rattle.std.specs.List.{position}
use Rattle.world_scene.specs.declared.names.Roles.{Roles}
use Rattle.world_scene.specs.Names.{is_named_view}
use Rattle.world_scene.proofs.beginning.only.Goals as goal

pub push-requires : goal.push-requires
push-requires g c = ap (position (is_named_view Roles.Any c.args.operator.node.name)) c.new-nodes.ensures

pub returns : goal.returns
returns g c = c.in_ok-push.ensures.ok ∙ ap (λ nodes. nodes ++ c.args.operator ∷ []) c.new-nodes.ensures
