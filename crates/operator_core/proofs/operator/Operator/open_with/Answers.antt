use Rattle.operator_core.proofs.Words.{role_in, operator_kinds}
use Rattle.operator_core.proofs.Opening.{not_long}
use Rattle.operator_core.proofs.operator.Operator.open_with.Goals as goal

pub returns-in-Some-clause-refused : goal.returns-in-Some-clause-refused
returns-in-Some-clause-refused g c =
    rw c.take_disk.ensures
    (not_long g.D.Disk.told g.D.Disk.plan g.D.Disk.faults (role_in operator_kinds) c.args.notes c.in-Ok.notes.notes
    c.records.result.now c.in-Some.place c.in-Ok.ensures.opened c.records.ensures c.in-Some.ensures.some)
