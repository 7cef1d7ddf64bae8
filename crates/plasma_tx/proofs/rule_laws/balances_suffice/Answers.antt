use Rattle.plasma_tx.proofs.MoneyKept.{balances_suffice as law}
use Rattle.plasma_tx.proofs.rule_laws.balances_suffice.Goals as goal

pub returns : goal.returns
returns c = law
