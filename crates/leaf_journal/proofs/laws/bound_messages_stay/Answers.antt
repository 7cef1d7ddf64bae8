use Rattle.leaf_journal.proofs.Lives.{bound_messages_stay}
use Rattle.leaf_journal.proofs.laws.bound_messages_stay.Goals as goal

pub returns : goal.returns
returns c = bound_messages_stay
