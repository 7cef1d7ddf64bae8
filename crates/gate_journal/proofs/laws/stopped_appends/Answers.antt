use Rattle.gate_journal.proofs.Crash.{stopped_appends}
use Rattle.gate_journal.proofs.laws.stopped_appends.Goals as goal

pub returns : goal.returns
returns c = stopped_appends
