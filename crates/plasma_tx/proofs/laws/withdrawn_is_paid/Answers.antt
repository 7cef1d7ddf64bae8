use Rattle.plasma_tx.proofs.Paid.{withdrawn_is_paid as law}
use Rattle.plasma_tx.proofs.laws.withdrawn_is_paid.Goals as goal

pub returns : goal.returns
returns c = law
