use Rattle.gate_journal.proofs.Stopped.{stopped_makings}
use Rattle.gate_journal.proofs.laws.stopped_makings.Goals as goal

pub returns : goal.returns
returns c = stopped_makings
