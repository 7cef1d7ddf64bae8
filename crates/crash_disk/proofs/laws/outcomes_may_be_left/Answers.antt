use Rattle.crash_disk.proofs.Images.{outcomes}
use Rattle.crash_disk.proofs.laws.outcomes_may_be_left.Goals as goal

pub returns : goal.returns
returns c = outcomes
