use Rattle.plasma_tx.proofs.Ends.{paid_exactly as law}
use Rattle.plasma_tx.proofs.rule_laws.paid_exactly.Goals as goal

pub returns : goal.returns
returns c = law
