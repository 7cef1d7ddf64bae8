use Rattle.root_contract.proofs.Words.{arith, rules_of, times_are_bounded}
use Rattle.root_contract.proofs.contract.Contract.clock.Goals as goal

pub returns-clause-limit : goal.returns-clause-limit
returns-clause-limit c =
    let bounded = times_are_bounded (rules_of c.self.inside.log) c.self.inside.log.log c.self.invariant.legal in
    omega (arith, bounded.0, c.now.ensures)
