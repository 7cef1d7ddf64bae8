use Rattle.chain_laws.proofs.Lived.{looks}
use Rattle.chain_laws.proofs.laws.looking_at_lives.Goals as goal

pub returns : goal.returns
returns g c =
    λ dig rules. looks g.D.Disk.told g.D.Disk.plan g.D.Disk.faults dig rules (c.chains_are_legal.ensures dig rules)
