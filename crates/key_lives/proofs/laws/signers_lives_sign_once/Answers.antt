use Rattle.key_lives.proofs.SignerLife.{signers_sign_once}
use Rattle.key_lives.proofs.laws.signers_lives_sign_once.Goals as goal

pub returns : goal.returns
returns g c = λ dig. signers_sign_once g.D.Disk.told g.D.Disk.plan g.D.Disk.faults dig
