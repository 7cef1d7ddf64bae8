use Rattle.watch_duty.proofs.OneChallenge.{one_challenge_is_due}
use Rattle.watch_duty.proofs.laws.one_challenge_is_due.Goals as goal

pub returns : goal.returns
returns c = one_challenge_is_due
