use Rattle.gate_journal.proofs.Lives.{made_journals_stay}
use Rattle.gate_journal.proofs.laws.made_journals_stay.Goals as goal

pub returns : goal.returns
returns c = made_journals_stay
