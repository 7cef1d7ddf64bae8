use Rattle.plasma_tx.proofs.RuleLeaves.{others_leave_exits as law}
use Rattle.plasma_tx.proofs.rule_laws.others_leave_exits.Goals as goal

pub returns : goal.returns
returns c = law
