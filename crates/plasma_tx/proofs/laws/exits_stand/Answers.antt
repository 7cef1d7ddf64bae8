use Rattle.plasma_tx.proofs.Stands.{exits_stand as law}
use Rattle.plasma_tx.proofs.laws.exits_stand.Goals as goal

pub returns : goal.returns
returns c = law
