use Rattle.plasma_tx.proofs.Legal.{logs_are_legal as law}
use Rattle.plasma_tx.proofs.rule_laws.logs_are_legal.Goals as goal

pub returns : goal.returns
returns c = law
