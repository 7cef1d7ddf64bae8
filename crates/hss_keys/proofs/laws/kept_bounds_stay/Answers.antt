use Rattle.hss_keys.proofs.Lives.{kept_bounds_stay}
use Rattle.hss_keys.proofs.laws.kept_bounds_stay.Goals as goal

pub returns : goal.returns
returns c = kept_bounds_stay
