use Rattle.leaf_journal.proofs.Words.{ap, arith, length, LeafRecordsState}
use Rattle.leaf_journal.proofs.Form.{count_within}
use Rattle.leaf_journal.proofs.records.LeafRecords.others.Goals as goal

pub overflow_sub-result : goal.overflow_sub-result
overflow_sub-result c =
    let within = count_within c.self.inside.leaves c.self.inside.records.items c.self.invariant.are in
    omega (arith, within, c.len.ensures, c.self.inside.records.ok)

pub returns : goal.returns
returns c =
    let leaves = ap (λ (s : LeafRecordsState). s.leaves) c.self.view_is in
    let count = ap (λ (s : LeafRecordsState). length s.records) c.self.view_is in
    let within = count_within c.self.inside.leaves c.self.inside.records.items c.self.invariant.are in
    omega (arith, leaves, count, within, c.len.ensures, c.self.inside.records.ok)
