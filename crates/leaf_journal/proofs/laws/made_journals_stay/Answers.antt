use Rattle.leaf_journal.proofs.Lives.{leaves_stay}
use Rattle.leaf_journal.proofs.laws.made_journals_stay.Goals as goal

pub returns : goal.returns
returns c = leaves_stay
