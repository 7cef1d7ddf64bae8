use Rattle.tag_laws.proofs.Histories.{histories_are_of_the_chain, accepted_are_of_the_chain, guarded_are_of_the_chain, kept_are_of_the_chain}
use Rattle.tag_laws.proofs.laws.accepted_histories_have_the_tag.Goals as goal

pub returns-clause-history : goal.returns-clause-history
returns-clause-history c = histories_are_of_the_chain

pub returns-clause-accepted : goal.returns-clause-accepted
returns-clause-accepted c = accepted_are_of_the_chain

pub returns-clause-guarded : goal.returns-clause-guarded
returns-clause-guarded c = guarded_are_of_the_chain

pub returns-clause-kept : goal.returns-clause-kept
returns-clause-kept c = kept_are_of_the_chain
