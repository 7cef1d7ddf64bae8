use Rattle.leaf_journal.proofs.Lives.{stopped_migrations}
use Rattle.leaf_journal.proofs.laws.stopped_migrations.Goals as goal

pub returns : goal.returns
returns c = stopped_migrations
