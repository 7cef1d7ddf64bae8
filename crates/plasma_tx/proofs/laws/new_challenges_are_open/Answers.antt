use Rattle.plasma_tx.proofs.Answered.{new_challenges_are_open as law}
use Rattle.plasma_tx.proofs.laws.new_challenges_are_open.Goals as goal

pub returns : goal.returns
returns c = law
