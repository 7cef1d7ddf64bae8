use Rattle.hss_keys.proofs.Lives.{no_leaf_signs_two_messages}
use Rattle.hss_keys.proofs.laws.no_leaf_signs_two_messages.Goals as goal

pub returns : goal.returns
returns c = no_leaf_signs_two_messages
