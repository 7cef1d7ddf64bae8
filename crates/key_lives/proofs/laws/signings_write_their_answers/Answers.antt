use Rattle.key_lives.proofs.SignerWrites.{signings_write_their_answers}
use Rattle.key_lives.proofs.laws.signings_write_their_answers.Goals as goal

pub returns : goal.returns
returns g c = λ dig. signings_write_their_answers g.D.Disk.told g.D.Disk.plan g.D.Disk.faults dig
