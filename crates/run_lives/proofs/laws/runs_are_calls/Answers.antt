use Rattle.run_lives.proofs.LifeLaws.{runs_are_calls}
use Rattle.run_lives.proofs.laws.runs_are_calls.Goals as goal

pub returns : goal.returns
returns g c = λ dig. runs_are_calls g.D.Disk.told g.D.Disk.plan g.D.Disk.faults dig
