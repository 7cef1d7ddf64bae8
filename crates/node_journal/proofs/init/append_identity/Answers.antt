use Rattle.node_journal.proofs.Words.{[], ◌∷◌, sym, subst, WhereTold, IsSettled}
use Rattle.node_journal.proofs.Beginning.{begun}
use Rattle.node_journal.proofs.init.append_identity.Goals as goal

pub returns-in-Ok-clause-begun : goal.returns-in-Ok-clause-begun
returns-in-Ok-clause-begun g c =
    let d = g.D.Disk in
    subst (λ (disk : _). WhereTold (d.told disk) (λ history. IsSettled history (c.args.identity.now ∷ [])))
    (sym c.take_disk-disk.ensures)
    (begun d.told d.plan c.args.journal c.append-appended.new.self c.args.identity.now c.requires.settled
    c.in-Ok.ensures.appends c.in-Ok.ensures.kept)
