use Rattle.leaf_journal.proofs.Words.{◌≡◌, ◌∙◌, sym, ap, arith, length, is_marked, LeafRecordsState}
use Rattle.leaf_journal.proofs.Messages.{is_marked-count}
use Rattle.leaf_journal.proofs.records.LeafRecords.is_marked.Goals as goal

pub returns : goal.returns
returns c =
    let records = c.self.inside.records.items in
    let same = ap (λ (s : LeafRecordsState). is_marked s.records) c.self.view_is in
    let len : c.len.result ≡ length records = omega (arith, c.len.ensures, c.self.inside.records.ok) in
    rw (len, c.self.invariant.count) (sym (is_marked-count records) ∙ same)
