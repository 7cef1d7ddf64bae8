use Rattle.plasma_tx.proofs.RuleLeaves.{exits_leave_by as law}
use Rattle.plasma_tx.proofs.rule_laws.exits_leave_by.Goals as goal

pub returns : goal.returns
returns c = law
