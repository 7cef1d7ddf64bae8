use Rattle.plasma_tx.proofs.Challenged.{challenges_stand as law}
use Rattle.plasma_tx.proofs.laws.challenges_stand.Goals as goal

pub returns : goal.returns
returns c = law
