use Rattle.tag_laws.proofs.Calls.{accepted_calls_are_of_the_chain, logs_are_of_the_chain}
use Rattle.tag_laws.proofs.laws.accepted_calls_have_the_tag.Goals as goal

pub returns-clause-calls : goal.returns-clause-calls
returns-clause-calls c = accepted_calls_are_of_the_chain

pub returns-clause-logs : goal.returns-clause-logs
returns-clause-logs c = logs_are_of_the_chain
