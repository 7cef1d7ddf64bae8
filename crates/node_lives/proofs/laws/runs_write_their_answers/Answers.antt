use Rattle.node_lives.proofs.Written.{runs_write_their_answers}
use Rattle.node_lives.proofs.laws.runs_write_their_answers.Goals as goal

pub returns : goal.returns
returns g c = λ dig. runs_write_their_answers g.D.Disk.told g.D.Disk.plan g.D.Disk.faults dig
