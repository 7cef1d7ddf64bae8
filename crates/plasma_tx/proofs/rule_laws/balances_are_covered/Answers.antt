use Rattle.plasma_tx.proofs.MoneyKept.{balances_are_covered as law}
use Rattle.plasma_tx.proofs.rule_laws.balances_are_covered.Goals as goal

pub returns : goal.returns
returns c = law
