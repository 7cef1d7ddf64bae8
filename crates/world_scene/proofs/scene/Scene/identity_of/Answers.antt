use Rattle.std.proofs.Common.{rules}
use Rattle.world_scene.specs.Scenes.{world_of}
use Rattle.world_scene.proofs.scene.Scene.identity_of.Goals as goal

pub returns-clause-value : goal.returns-clause-value
returns-clause-value g c = c.declared_wallet.ensures.value (world_of c.args.self.now) (search rules)
