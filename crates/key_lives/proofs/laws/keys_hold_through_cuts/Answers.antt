use Rattle.key_lives.proofs.CutLaws.{keys_hold_through_cuts}
use Rattle.key_lives.proofs.laws.keys_hold_through_cuts.Goals as goal

pub returns : goal.returns
returns g c = λ dig. keys_hold_through_cuts g.D.Disk.told g.D.Disk.plan g.D.Disk.faults dig
