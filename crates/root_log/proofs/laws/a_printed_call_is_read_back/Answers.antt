use Rattle.root_log.proofs.GrammarLaws.{call_in-call_text}
use Rattle.root_log.proofs.laws.a_printed_call_is_read_back.Goals as goal

pub returns : goal.returns
returns c = call_in-call_text
