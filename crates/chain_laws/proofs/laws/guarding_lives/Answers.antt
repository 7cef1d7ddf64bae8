use Rattle.chain_laws.proofs.Lived.{tips, bonds, reserves, timely, ledger}
use Rattle.chain_laws.proofs.laws.guarding_lives.Goals as goal

pub returns-clause-open : goal.returns-clause-open
returns-clause-open g c =
    λ dig rules. tips g.D.Disk.told g.D.Disk.plan g.D.Disk.faults dig rules (c.chains_are_legal.ensures dig rules)

pub returns-clause-back : goal.returns-clause-back
returns-clause-back g c =
    λ dig rules. bonds g.D.Disk.told g.D.Disk.plan g.D.Disk.faults dig rules (c.chains_are_legal.ensures dig rules)

pub returns-clause-reserve : goal.returns-clause-reserve
returns-clause-reserve g c =
    λ dig rules. reserves g.D.Disk.told g.D.Disk.plan g.D.Disk.faults dig rules (c.chains_are_legal.ensures dig rules)

pub returns-clause-timely : goal.returns-clause-timely
returns-clause-timely g c =
    λ dig rules. timely g.D.Disk.told g.D.Disk.plan g.D.Disk.faults dig rules (c.chains_are_legal.ensures dig rules)

pub returns-clause-ledger : goal.returns-clause-ledger
returns-clause-ledger g c =
    λ dig rules. ledger g.D.Disk.told g.D.Disk.plan g.D.Disk.faults dig rules (c.chains_are_legal.ensures dig rules)
