use Rattle.leaf_journal.proofs.Words.{refl, arith, records_behind_of, first_count}
use Rattle.leaf_journal.proofs.records.LeafRecords.new.Goals as goal

pub invariant_of-result : goal.invariant_of-result
unfolding first_count records_behind_of
invariant_of-result c = record {
  are = rw c.in_ok-records.ensures.items refl;
  count = rw c.in_ok-records.ensures.items refl;
  few = c.requires;
  room = omega (arith, c.in_ok-records.ensures.capacity);
}
