use Rattle.tag_laws.proofs.Operators.{receipts_are_of_the_chain, desks_count_leaves_alone}
use Rattle.tag_laws.proofs.laws.given_receipts_have_the_tag.Goals as goal

pub returns-clause-given : goal.returns-clause-given
returns-clause-given c = receipts_are_of_the_chain

pub returns-clause-counted : goal.returns-clause-counted
returns-clause-counted c = desks_count_leaves_alone
