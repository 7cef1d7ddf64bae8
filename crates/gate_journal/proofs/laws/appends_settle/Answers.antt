use Rattle.gate_journal.proofs.Rest.{appends_settle}
use Rattle.gate_journal.proofs.laws.appends_settle.Goals as goal

pub returns : goal.returns
returns c = appends_settle
