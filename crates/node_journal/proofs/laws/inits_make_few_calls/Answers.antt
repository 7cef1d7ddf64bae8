use Rattle.node_journal.proofs.Lasting.{inits_make_few_calls}
use Rattle.node_journal.proofs.laws.inits_make_few_calls.Goals as goal

pub returns : goal.returns
returns c = inits_make_few_calls
