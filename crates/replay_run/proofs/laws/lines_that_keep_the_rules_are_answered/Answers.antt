use Rattle.replay_run.proofs.RuleLaws.{kept-are_answered}
use Rattle.replay_run.proofs.laws.lines_that_keep_the_rules_are_answered.Goals as goal

pub returns : goal.returns
returns c = kept-are_answered
