use Rattle.watch_duty.proofs.OneChallenge.{nothing_is_due_without_exits}
use Rattle.watch_duty.proofs.laws.nothing_is_due_without_exits.Goals as goal

pub returns : goal.returns
returns c = nothing_is_due_without_exits
