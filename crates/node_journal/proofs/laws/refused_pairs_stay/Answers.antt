use Rattle.node_journal.proofs.Asking.{refused_pairs_stay}
use Rattle.node_journal.proofs.laws.refused_pairs_stay.Goals as goal

pub returns : goal.returns
returns g c =
    refused_pairs_stay g.D.Disk.told g.D.Disk.plan g.D.Disk.faults g.E.Disk.told g.E.Disk.plan g.E.Disk.faults
