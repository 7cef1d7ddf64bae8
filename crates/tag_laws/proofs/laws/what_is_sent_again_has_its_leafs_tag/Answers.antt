use Rattle.tag_laws.proofs.Sent.{again_gives_its_leaf, own_again_is_of_the_chain, other_again_is_refused}
use Rattle.tag_laws.proofs.laws.what_is_sent_again_has_its_leafs_tag.Goals as goal

pub returns-clause-again : goal.returns-clause-again
returns-clause-again c = again_gives_its_leaf

pub returns-clause-own : goal.returns-clause-own
returns-clause-own c = own_again_is_of_the_chain

pub returns-clause-others : goal.returns-clause-others
returns-clause-others c = other_again_is_refused
