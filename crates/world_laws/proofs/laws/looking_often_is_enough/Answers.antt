use Rattle.world_laws.proofs.Promises.{often_is_enough}
use Rattle.world_laws.proofs.laws.looking_often_is_enough.Goals as goal

pub returns : goal.returns
returns c = often_is_enough
