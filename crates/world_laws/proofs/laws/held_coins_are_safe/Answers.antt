use Rattle.world_laws.proofs.Promises.{held_coins_are_safe}
use Rattle.world_laws.proofs.laws.held_coins_are_safe.Goals as goal

pub returns : goal.returns
returns c = held_coins_are_safe
