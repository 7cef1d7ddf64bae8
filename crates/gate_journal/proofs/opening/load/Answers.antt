use Rattle.gate_journal.proofs.Words.{List, ℕ, subst, Spells, IsReadRefusal}
use Rattle.gate_journal.proofs.OpenCalls.{opened_settled, refused_read}
use Rattle.gate_journal.proofs.opening.load.Goals as goal

pub returns-in-Ok-clause-settled : goal.returns-in-Ok-clause-settled
returns-in-Ok-clause-settled g c =
    let image = c.in_ok-image.image.items in
    let records = c.in-Ok.found.records.items in
    let kept : Spells image records =
    subst (λ (b : List ℕ). Spells b records) c.deref.ensures.value c.in-Ok.ensures.kept in
    opened_settled g.D.Disk.told g.D.Disk.plan image records c.in_ok-image.ensures.made c.in_ok-image.ensures.image kept

pub returns-clause-refused : goal.returns-clause-refused
returns-clause-refused g c =
    let image = c.in_ok-image.image.items in
    let not : IsReadRefusal image c.in-Err.why =
    subst (λ (b : List ℕ). IsReadRefusal b c.in-Err.why) c.deref.ensures.value c.in-Err.ensures.refused in
    refused_read g.D.Disk.told g.D.Disk.plan c.in_ok-image.ensures.made image c.in_ok-image.ensures.image c.in-Err.why
    not
