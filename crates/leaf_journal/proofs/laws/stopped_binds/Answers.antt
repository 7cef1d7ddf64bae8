use Rattle.leaf_journal.proofs.Lives.{stopped_binds}
use Rattle.leaf_journal.proofs.laws.stopped_binds.Goals as goal

pub returns : goal.returns
returns c = stopped_binds
