use Rattle.hss_keys.proofs.Lives.{stopped_level_appends}
use Rattle.hss_keys.proofs.laws.stopped_level_appends.Goals as goal

pub returns : goal.returns
returns c = stopped_level_appends
