use Rattle.plasma_tx.proofs.MoneyKept.{money_is_kept as law}
use Rattle.plasma_tx.proofs.rule_laws.money_is_kept.Goals as goal

pub returns : goal.returns
returns c = law
