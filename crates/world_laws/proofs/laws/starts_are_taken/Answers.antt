use Rattle.world_laws.proofs.Promises.{starts_taken}
use Rattle.world_laws.proofs.laws.starts_are_taken.Goals as goal

pub returns : goal.returns
returns c = starts_taken
