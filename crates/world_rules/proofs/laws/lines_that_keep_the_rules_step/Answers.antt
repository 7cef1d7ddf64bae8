use Rattle.world_rules.proofs.Lines.{lines_that_keep_the_rules_step}
use Rattle.world_rules.proofs.laws.lines_that_keep_the_rules_step.Goals as goal

pub returns : goal.returns
returns c = lines_that_keep_the_rules_step
