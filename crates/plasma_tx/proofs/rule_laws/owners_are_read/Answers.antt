use Rattle.plasma_tx.proofs.Accepted.{owners_are_read as law}
use Rattle.plasma_tx.proofs.rule_laws.owners_are_read.Goals as goal

pub returns : goal.returns
returns c = law
