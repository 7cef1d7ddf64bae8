use Rattle.node_journal.proofs.Words.{sym, subst, journal_steps, PassesInit}
use Rattle.node_journal.proofs.Beginning.{pair_passes, pair_stops}
use Rattle.node_journal.proofs.init.begin_behind_notes.Goals as goal

pub returns-clause-passes : goal.returns-clause-passes
returns-clause-passes g c =
    let d = g.D.Disk in
    let e = g.E.Disk in
    let notes = c.in-Ok.ensures.begins in
    let leaves = c.in-Ok-begin_journal.ensures.begins in
    let beside = subst (λ (disk : _). PassesInit e.told e.plan e.faults journal_steps c.args.leaves disk)
    (sym c.take_disk-leaves.ensures) (record { inits = leaves.inits; count = leaves.count }) in
    pair_passes d.told d.plan d.faults e.told e.plan e.faults c.args.identity.now
    (record { inits = notes.inits; count = notes.count }) beside
    c.append_identity-notes.result.1 c.append_identity-notes.ensures.appends c.append_identity-notes.ensures.cause

pub returns-clause-refused : goal.returns-clause-refused
returns-clause-refused g c =
    let d = g.D.Disk in
    let e = g.E.Disk in
    let notes = c.in-Ok.ensures.begins in
    let leaves = c.in-Ok-begin_journal.ensures.begins in
    let beside = subst (λ (disk : _). PassesInit e.told e.plan e.faults journal_steps c.args.leaves disk)
    (sym c.take_disk-leaves.ensures) (record { inits = leaves.inits; count = leaves.count }) in
    pair_stops d.told d.plan d.faults e.told e.plan e.faults c.args.identity.now
    (record { inits = notes.inits; count = notes.count }) beside
    c.append_identity-notes.result.1 c.append_identity-notes.ensures.appends c.append_identity-notes.ensures.cause
