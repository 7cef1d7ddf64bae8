use Rattle.wallet_core.proofs.OwnCoins.{others_are_nothing}
use Rattle.wallet_core.proofs.having.other_coins_are_nothing.Goals as goal

pub returns : goal.returns
returns c = others_are_nothing
