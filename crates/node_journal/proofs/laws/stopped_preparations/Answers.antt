use Rattle.node_journal.proofs.Lasting.{stopped_preparations}
use Rattle.node_journal.proofs.laws.stopped_preparations.Goals as goal

pub returns : goal.returns
returns c = stopped_preparations
