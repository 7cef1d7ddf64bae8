use Rattle.plasma_tx.proofs.Bounds.{exits_are_their_owners as law}
use Rattle.plasma_tx.proofs.rule_laws.exits_are_their_owners.Goals as goal

pub returns : goal.returns
returns c = law
