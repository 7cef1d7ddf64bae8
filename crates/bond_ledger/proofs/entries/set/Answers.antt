use Rattle.bond_ledger.proofs.Money.{money-insert, known-ok}
use Rattle.bond_ledger.proofs.entries.set.Goals as goal

pub returns-clause-money : goal.returns-clause-money
returns-clause-money c =
    money-insert c.args.entries.now c.insert.new.self c.args.account c.args.sums c.insert.ensures.was_ordered
    (known-ok c.insert.result _ c.insert.ensures.absent c.requires c.insert.ensures.entries)
