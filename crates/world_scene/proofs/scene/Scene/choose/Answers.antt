use Rattle.std.proofs.Common.{rules}
use Rattle.world_scene.proofs.Commands.{order_keeps, no_order_breaks}
use Rattle.world_scene.proofs.scene.Scene.choose.Goals as goal

pub returns-in-Some-2-clause-keeps : goal.returns-in-Some-2-clause-keeps
returns-in-Some-2-clause-keeps g c =
    order_keeps c.args.self.now c.args.command.now c.in-Some.n (search rules) c.in-Some-2.order (search rules)

pub returns-in-None-clause-bad : goal.returns-in-None-clause-bad
returns-in-None-clause-bad g c _ =
    no_order_breaks c.args.self.now c.args.command.now c.in-Some.n (search rules) (search rules)
