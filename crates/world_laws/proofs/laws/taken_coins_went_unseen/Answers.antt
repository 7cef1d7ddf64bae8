use Rattle.world_laws.proofs.Promises.{taken_went_unseen}
use Rattle.world_laws.proofs.laws.taken_coins_went_unseen.Goals as goal

pub returns : goal.returns
returns c = taken_went_unseen
