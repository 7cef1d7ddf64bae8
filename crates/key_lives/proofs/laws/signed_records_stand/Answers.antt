use Rattle.key_lives.proofs.SignerLife.{signed_records_stand}
use Rattle.key_lives.proofs.laws.signed_records_stand.Goals as goal

pub returns : goal.returns
returns g c = λ dig. signed_records_stand g.D.Disk.told g.D.Disk.plan g.D.Disk.faults dig
