use Rattle.gate_journal.proofs.Read.{spelled_is_read}
use Rattle.gate_journal.proofs.laws.spelled_is_read.Goals as goal

pub returns : goal.returns
returns c = spelled_is_read
