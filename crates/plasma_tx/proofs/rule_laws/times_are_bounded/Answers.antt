use Rattle.plasma_tx.proofs.Bounds.{times_are_bounded as law}
use Rattle.plasma_tx.proofs.rule_laws.times_are_bounded.Goals as goal

pub returns : goal.returns
returns c = law
