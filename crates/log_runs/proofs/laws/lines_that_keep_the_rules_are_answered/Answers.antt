use Rattle.log_runs.specs.Archiving.{archiving}
use Rattle.log_runs.specs.Auditing.{auditing}
use Rattle.log_runs.proofs.CompleteLaws.{kept-are_answered}
use Rattle.log_runs.proofs.laws.lines_that_keep_the_rules_are_answered.Goals as goal

pub returns-clause-audit : goal.returns-clause-audit
returns-clause-audit c = λ dig key receipt. kept-are_answered (auditing dig key receipt)

pub returns-clause-archive : goal.returns-clause-archive
returns-clause-archive c = λ dig. kept-are_answered (archiving dig)
