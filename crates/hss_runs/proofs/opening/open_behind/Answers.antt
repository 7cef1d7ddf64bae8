use Rattle.hss_runs.proofs.Openings.{starved}
use Rattle.hss_runs.proofs.opening.open_behind.Goals as goal

pub returns-in-Err-clause-refused : goal.returns-in-Err-clause-refused
returns-in-Err-clause-refused g c =
    (c.take_disk.ensures, starved g.D.Disk.told g.D.Disk.plan g.D.Disk.faults c.args.leaves _)
