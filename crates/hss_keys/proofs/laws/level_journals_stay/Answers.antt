use Rattle.hss_keys.proofs.Lives.{level_journals_stay}
use Rattle.hss_keys.proofs.laws.level_journals_stay.Goals as goal

pub returns : goal.returns
returns c = level_journals_stay
