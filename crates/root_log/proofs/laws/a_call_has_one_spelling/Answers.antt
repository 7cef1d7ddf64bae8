use Rattle.root_log.proofs.GrammarLaws.{call_text-call_in}
use Rattle.root_log.proofs.laws.a_call_has_one_spelling.Goals as goal

pub returns : goal.returns
returns c = call_text-call_in
