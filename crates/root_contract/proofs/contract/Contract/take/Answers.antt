use Rattle.plasma_tx.specs.Shown.{tests_by}
use Rattle.root_contract.proofs.contract.Contract.take.Goals as goal

pub returns-in-Fund : goal.returns-in-Fund
returns-in-Fund g c = rw (c.in-Fund.is) (c.fund.ensures (tests_by (g.H.Hash32.digest_of c.args.h.now)))

pub returns-in-Tick : goal.returns-in-Tick
returns-in-Tick g c = rw (c.in-Tick.is) (c.tick.ensures (tests_by (g.H.Hash32.digest_of c.args.h.now)))

pub returns-in-Deposit : goal.returns-in-Deposit
returns-in-Deposit g c = rw (c.in-Deposit.is) (c.deposit.ensures (tests_by (g.H.Hash32.digest_of c.args.h.now)))

pub returns-in-Commit : goal.returns-in-Commit
returns-in-Commit g c = rw (c.in-Commit.is) (c.commit.ensures (tests_by (g.H.Hash32.digest_of c.args.h.now)))

pub returns-in-StartDeposit : goal.returns-in-StartDeposit
returns-in-StartDeposit g c = rw (c.in-StartDeposit.is) (c.start_deposit.ensures (tests_by
    (g.H.Hash32.digest_of c.args.h.now)))

pub returns-in-Finish : goal.returns-in-Finish
returns-in-Finish g c = rw (c.in-Finish.is) (c.finish.ensures (tests_by (g.H.Hash32.digest_of c.args.h.now)))
