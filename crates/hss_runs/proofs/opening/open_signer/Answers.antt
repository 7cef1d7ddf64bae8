use Rattle.std.proofs.Common.{inr}
use Rattle.std.proofs.lemmas.Result.{IfErr-weaker}
use Rattle.hss_runs.specs.Runs.{RefusesLeaves, RefusesSigner}
use Rattle.hss_runs.proofs.opening.open_signer.Goals as goal

pub returns-in-Ok-clause-refused : goal.returns-in-Ok-clause-refused
returns-in-Ok-clause-refused g c =
    let d = g.D.Disk in
    IfErr-weaker c.open_behind.result
    (λ returned. RefusesLeaves d.told d.plan d.faults c.in-Ok.notes.notes c.args.leaves returned.why returned.notes
    returned.leaves)
    (λ returned. RefusesSigner d.told d.plan d.faults c.args.notes c.args.leaves returned.why returned.notes
    returned.leaves)
    (λ returned refuses. inr (c.in-Ok.notes.notes, c.in-Ok.ensures.opened, refuses)) c.open_behind.ensures.refused
