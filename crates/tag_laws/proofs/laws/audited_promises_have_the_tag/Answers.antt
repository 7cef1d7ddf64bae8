use Rattle.tag_laws.proofs.Operators.{others_are_no_receipts, convictions_are_of_the_chain}
use Rattle.tag_laws.proofs.laws.audited_promises_have_the_tag.Goals as goal

pub returns-clause-others : goal.returns-clause-others
returns-clause-others c = others_are_no_receipts

pub returns-clause-convictions : goal.returns-clause-convictions
returns-clause-convictions c = convictions_are_of_the_chain
