use Rattle.plasma_tx.proofs.MoneyKept.{held_suffices as law}
use Rattle.plasma_tx.proofs.rule_laws.held_suffices.Goals as goal

pub returns : goal.returns
returns c = law
