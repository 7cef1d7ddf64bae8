use Rattle.key_lives.proofs.SignerLife.{begun_signers_stay}
use Rattle.key_lives.proofs.laws.begun_signers_stay.Goals as goal

pub returns : goal.returns
returns g c = λ dig. begun_signers_stay g.D.Disk.told g.D.Disk.plan g.D.Disk.faults dig
