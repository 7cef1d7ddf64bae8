use Rattle.leaf_journal.proofs.KindRecords.{kind_records}
use Rattle.leaf_journal.proofs.laws.kind_records.Goals as goal

pub returns : goal.returns
returns c = kind_records
