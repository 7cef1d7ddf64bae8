use Rattle.node_journal.proofs.Lasting.{inits_may_be_repeated}
use Rattle.node_journal.proofs.laws.inits_may_be_repeated.Goals as goal

pub returns : goal.returns
returns c = inits_may_be_repeated
