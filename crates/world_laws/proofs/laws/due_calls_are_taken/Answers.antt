use Rattle.world_laws.proofs.Promises.{due_are_taken}
use Rattle.world_laws.proofs.laws.due_calls_are_taken.Goals as goal

pub returns : goal.returns
returns c = due_are_taken
