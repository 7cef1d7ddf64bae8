use Rattle.watch_duty.proofs.Places.{due-are as law}
use Rattle.watch_duty.proofs.laws.due_calls_are_by_place.Goals as goal

pub returns : goal.returns
returns c = law
