use Rattle.leaf_journal.proofs.Words.{◌≡◌, ◌≤◌, Ok, take, length, spelled, leaf_records, leaf_records_of}
use Rattle.leaf_journal.proofs.reading.read_records.Given as goal

abbrev pub invariant-loop-body : goal.invariant-loop-body
invariant-loop-body g l = record {
  front : l.kept.records ≡ take l.body-index l.records;
  are : leaf_records l.kept.leaves l.kept.records ≡ Ok l.kept.records;
  kind : leaf_records_of g.K.MessageKind.is_message l.kept.leaves l.kept.records ≡ Ok l.kept.records;
  leaves : l.kept.leaves ≡ l.fn.none.leaves;
  few : l.kept.leaves ≤ 1024;
  place : l.place ≡ length (spelled l.kept.records);
}
