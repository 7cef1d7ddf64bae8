use Rattle.plasma_tx.proofs.Ends.{withdrawn_is_paid as law}
use Rattle.plasma_tx.proofs.rule_laws.withdrawn_is_answered_paid.Goals as goal

pub returns : goal.returns
returns c = law
