use Rattle.world_scene.proofs.Growth.{stays_spell}
use Rattle.world_scene.proofs.scene.Scene.tick.Goals as goal

pub returns-clause-spells : goal.returns-clause-spells
returns-clause-spells g c all = stays_spell c.args.self.now c.enter_own.new.self c.in_ok-answer.ensures.nodes all
