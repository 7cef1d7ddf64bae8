use Rattle.world_laws.proofs.Promises.{looked_after_are_safe}
use Rattle.world_laws.proofs.laws.looked_after_coins_are_safe.Goals as goal

pub returns : goal.returns
returns c = looked_after_are_safe
