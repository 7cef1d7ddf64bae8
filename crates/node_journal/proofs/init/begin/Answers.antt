use Rattle.node_journal.proofs.Beginning.{not_begun, init_appended}
use Rattle.node_journal.proofs.init.begin.Goals as goal

pub returns-in-Ok-clause-inits : goal.returns-in-Ok-clause-inits
returns-in-Ok-clause-inits g c = λ before is.
    let d = g.D.Disk in
    init_appended d.told d.plan before is c.args.identity.now (c.in-Ok.ensures.begins.inits before is)
    c.append_identity.result.1 c.append_identity.result.0 c.append_identity.ensures.appends

pub returns-in-Err-clause-inits : goal.returns-in-Err-clause-inits
returns-in-Err-clause-inits g c = λ before is.
    let d = g.D.Disk in
    let refused = c.in-Err.refused in
    not_begun d.told d.plan before is c.args.identity.now refused.why refused.disk
    (c.in-Err.ensures.refused.inits before is)
