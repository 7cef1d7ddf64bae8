use Rattle.bond_ledger.proofs.Known.{held_is_of_known}
use Rattle.bond_ledger.proofs.laws.held_money_is_of_known_accounts.Goals as goal

pub returns : goal.returns
returns c = held_is_of_known
