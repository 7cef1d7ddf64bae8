use Rattle.world_maker.proofs.WholeRun.{whole-run}
use Rattle.world_maker.proofs.laws.lines_keep_the_rules.Goals as goal

pub returns : goal.returns
returns c = whole-run
