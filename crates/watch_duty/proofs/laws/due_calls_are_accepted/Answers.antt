use Rattle.watch_duty.proofs.Accepts.{due_calls_are_accepted}
use Rattle.watch_duty.proofs.laws.due_calls_are_accepted.Goals as goal

pub returns : goal.returns
returns c = due_calls_are_accepted
