use Rattle.node_journal.proofs.Lasting.{prepared_journals_are_empty}
use Rattle.node_journal.proofs.laws.prepared_journals_are_empty.Goals as goal

pub returns : goal.returns
returns c = prepared_journals_are_empty
