use Rattle.node_lives.proofs.Answered.{answered_records_stand}
use Rattle.node_lives.proofs.laws.answered_records_stand.Goals as goal

pub returns : goal.returns
returns g c = λ dig. answered_records_stand g.D.Disk.told g.D.Disk.plan g.D.Disk.faults dig
