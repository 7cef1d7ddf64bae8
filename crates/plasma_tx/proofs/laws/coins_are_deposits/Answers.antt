use Rattle.plasma_tx.proofs.Numbered.{coins-are as law}
use Rattle.plasma_tx.proofs.laws.coins_are_deposits.Goals as goal

pub returns : goal.returns
returns c = law
