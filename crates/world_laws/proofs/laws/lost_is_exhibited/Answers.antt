use Rattle.world_laws.proofs.Promises.{lost_is_shown}
use Rattle.world_laws.proofs.laws.lost_is_exhibited.Goals as goal

pub returns : goal.returns
returns c = lost_is_shown
