use Rattle.leaf_journal.proofs.Lives.{a_leaf_has_one_message}
use Rattle.leaf_journal.proofs.laws.a_leaf_has_one_message.Goals as goal

pub returns : goal.returns
returns c = a_leaf_has_one_message
