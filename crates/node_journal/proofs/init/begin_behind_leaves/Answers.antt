use Rattle.node_journal.proofs.Words.{sym, subst, journal_steps, PassesInit}
use Rattle.node_journal.proofs.Beginning.{begun_passes, begun_stops}
use Rattle.node_journal.proofs.init.begin_behind_leaves.Goals as goal

pub returns-clause-passes : goal.returns-clause-passes
returns-clause-passes g c =
    let d = g.D.Disk in
    let e = g.E.Disk in
    let leaves = c.in-Ok.ensures.begins in
    let beside = subst (λ (disk : _). PassesInit e.told e.plan e.faults journal_steps c.args.leaves disk)
    (sym c.take_disk-leaves.ensures) (record { inits = leaves.inits; count = leaves.count }) in
    begun_passes d.told d.plan d.faults e.told e.plan e.faults c.args.identity.now beside
    c.begin-notes.result.1 c.begin-notes.ensures.inits c.begin-notes.ensures.cause

pub returns-clause-refused : goal.returns-clause-refused
returns-clause-refused g c =
    let d = g.D.Disk in
    let e = g.E.Disk in
    let leaves = c.in-Ok.ensures.begins in
    let beside = subst (λ (disk : _). PassesInit e.told e.plan e.faults journal_steps c.args.leaves disk)
    (sym c.take_disk-leaves.ensures) (record { inits = leaves.inits; count = leaves.count }) in
    begun_stops d.told d.plan d.faults e.told e.plan e.faults c.args.identity.now beside
    c.begin-notes.result.1 c.begin-notes.ensures.inits c.begin-notes.ensures.cause
