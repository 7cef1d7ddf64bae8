use Rattle.gate_journal.proofs.Lives.{appended_records_stay}
use Rattle.gate_journal.proofs.laws.appended_records_stay.Goals as goal

pub returns : goal.returns
returns c = appended_records_stay
