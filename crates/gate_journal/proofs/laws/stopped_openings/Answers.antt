use Rattle.gate_journal.proofs.Stopped.{stopped_openings}
use Rattle.gate_journal.proofs.laws.stopped_openings.Goals as goal

pub returns : goal.returns
returns c = stopped_openings
