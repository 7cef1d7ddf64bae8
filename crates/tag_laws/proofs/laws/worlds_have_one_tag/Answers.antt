use Rattle.tag_laws.proofs.Worlds.{runs_are_of_the_chain, bound_are_of_the_chain}
use Rattle.tag_laws.proofs.laws.worlds_have_one_tag.Goals as goal

pub returns-clause-events : goal.returns-clause-events
returns-clause-events c = runs_are_of_the_chain

pub returns-clause-bound : goal.returns-clause-bound
returns-clause-bound c = bound_are_of_the_chain
