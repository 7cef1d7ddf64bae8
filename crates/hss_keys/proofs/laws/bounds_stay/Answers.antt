use Rattle.hss_keys.proofs.Lives.{bounds_stay}
use Rattle.hss_keys.proofs.laws.bounds_stay.Goals as goal

pub returns : goal.returns
returns c = bounds_stay
