use Rattle.leaf_journal.proofs.Words.{bool_byte, ◌≡◌, ◌∙◌, ap, arith, length, cond, is_marked, messages_of, LeafRecordsState}
use Rattle.leaf_journal.proofs.Messages.{byte_of, messages-count}
use Rattle.leaf_journal.proofs.Form.{are_few, count_within}
use Rattle.leaf_journal.proofs.records.LeafRecords.used.Goals as goal

pub overflow_cast-result : goal.overflow_cast-result
overflow_cast-result c =
    let within = count_within c.self.inside.leaves c.self.inside.records.items c.self.invariant.are in
    omega (arith, within, c.len.ensures, c.self.inside.records.ok, c.self.invariant.few)

pub returns-clause-value : goal.returns-clause-value
returns-clause-value c =
    let same = ap (λ (s : LeafRecordsState). length s.records) c.self.view_is in
    let marks : c.from-marks.result ≡ cond (is_marked c.args.self.now.records) 1 0 =
    c.from-marks.ensures ∙ ap bool_byte c.is_marked.ensures ∙ byte_of (is_marked c.args.self.now.records) in
    omega (arith, marks, same, c.len.ensures, c.self.inside.records.ok, messages-count c.args.self.now.records)

pub returns-clause-within : goal.returns-clause-within
returns-clause-within c =
    let records = c.self.inside.records.items in
    let same = ap (λ (s : LeafRecordsState). length (messages_of s.records)) c.self.view_is in
    let leaves = ap (λ (s : LeafRecordsState). s.leaves) c.self.view_is in
    let few = are_few c.self.inside.leaves records records c.self.invariant.are in
    omega (arith, returns-clause-value c, same, leaves, few.within)
