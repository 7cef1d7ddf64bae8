use Rattle.tag_laws.proofs.Operators.{offers_are_of_the_chain, others_are_not_offered, offered_are_of_the_chain, walks_are_of_the_chain, honest_bundles_are_of_the_chain}
use Rattle.tag_laws.proofs.laws.offered_transfers_have_the_tag.Goals as goal

pub returns-clause-taken : goal.returns-clause-taken
returns-clause-taken c = offers_are_of_the_chain

pub returns-clause-others : goal.returns-clause-others
returns-clause-others c = others_are_not_offered

pub returns-clause-records : goal.returns-clause-records
returns-clause-records c = offered_are_of_the_chain

pub returns-clause-walk : goal.returns-clause-walk
returns-clause-walk c = walks_are_of_the_chain

pub returns-clause-bundles : goal.returns-clause-bundles
returns-clause-bundles c = honest_bundles_are_of_the_chain
