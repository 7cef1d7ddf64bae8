use Rattle.coin_safety.proofs.Accepting.{acts_are_accepted}
use Rattle.coin_safety.proofs.laws.acts_are_accepted.Goals as goal

pub returns : goal.returns
returns c = acts_are_accepted
