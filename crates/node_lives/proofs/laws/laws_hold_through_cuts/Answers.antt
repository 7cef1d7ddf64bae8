use Rattle.node_lives.proofs.CutLaws.{laws_hold_through_cuts}
use Rattle.node_lives.proofs.laws.laws_hold_through_cuts.Goals as goal

pub returns : goal.returns
returns g c = λ dig. laws_hold_through_cuts g.D.Disk.told g.D.Disk.plan g.D.Disk.faults dig
