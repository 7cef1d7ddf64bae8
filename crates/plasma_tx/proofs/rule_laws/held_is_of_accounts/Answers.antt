use Rattle.plasma_tx.proofs.MoneyKept.{held_is_of_accounts as law}
use Rattle.plasma_tx.proofs.rule_laws.held_is_of_accounts.Goals as goal

pub returns : goal.returns
returns c = law
