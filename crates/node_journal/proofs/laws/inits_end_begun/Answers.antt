use Rattle.node_journal.proofs.Lasting.{inits_end_begun}
use Rattle.node_journal.proofs.laws.inits_end_begun.Goals as goal

pub returns : goal.returns
returns c = inits_end_begun
