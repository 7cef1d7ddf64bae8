use Rattle.node_journal.proofs.Beginning.{begins_empty, refuses_empty, refuses_making}
use Rattle.node_journal.proofs.init.begin_journal.Goals as goal

pub returns-in-Ok-clause-begins : goal.returns-in-Ok-clause-begins
returns-in-Ok-clause-begins g c =
    let d = g.D.Disk in
    begins_empty d.told d.plan d.faults c.in-Ok.length c.in-Ok.ensures.finds c.in-Ok.ensures.cause
    c.open_empty.result c.open_empty.ensures.opens

pub returns-in-Ok-clause-refused : goal.returns-in-Ok-clause-refused
returns-in-Ok-clause-refused g c =
    let d = g.D.Disk in
    refuses_empty d.told d.plan d.faults c.in-Ok.length c.in-Ok.ensures.finds c.in-Ok.ensures.cause c.open_empty.result
    c.open_empty.ensures.refused c.open_empty.ensures.cause

pub returns-in-Err-clause-refused : goal.returns-in-Err-clause-refused
returns-in-Err-clause-refused g c =
    let d = g.D.Disk in
    refuses_making d.told d.plan d.faults c.in-Err.why c.in-Err.ensures.finds c.in-Err.ensures.cause
