use Rattle.root_log.proofs.CallLaws.{call_of_line-line_of, line_of-call_of_line}
use Rattle.root_log.proofs.laws.a_call_and_its_line_are_one.Goals as goal

pub returns-clause-call : goal.returns-clause-call
returns-clause-call c = call_of_line-line_of

pub returns-clause-line : goal.returns-clause-line
returns-clause-line c = line_of-call_of_line
