use Rattle.node_lives.proofs.Cuts.{cuts_are_faults}
use Rattle.node_lives.proofs.laws.cuts_are_faults.Goals as goal

pub returns : goal.returns
returns g c = λ dig. cuts_are_faults g.D.Disk.told g.D.Disk.plan g.D.Disk.faults dig
