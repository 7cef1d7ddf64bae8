use Rattle.chain_lives.proofs.AllLegal.{chains_are_legal}
use Rattle.chain_lives.proofs.laws.chains_are_legal.Goals as goal

pub returns : goal.returns
returns g c = λ dig rules. chains_are_legal g.D.Disk.told g.D.Disk.plan g.D.Disk.faults dig rules
