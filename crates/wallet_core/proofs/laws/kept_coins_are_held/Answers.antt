use Rattle.wallet_core.proofs.StateLaws.{kept_coins_are_held, held_coins_are_kept}
use Rattle.wallet_core.proofs.laws.kept_coins_are_held.Goals as goal

pub returns : goal.returns
returns c = record { kept = kept_coins_are_held; held = held_coins_are_kept }
