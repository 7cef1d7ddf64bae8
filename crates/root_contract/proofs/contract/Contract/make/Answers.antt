use Rattle.std.proofs.Common.{ap}
use Rattle.root_contract.proofs.Agreeing.{agrees-none}
use Rattle.root_contract.proofs.contract.Contract.make.Goals as goal

pub invariant_of-result : goal.invariant_of-result
invariant_of-result c = agrees-none c.make.result c.new.result c.new-2.result (ap (λ chain. chain.log) c.make.ensures)
    c.new.ensures c.new-2.ensures.balances c.new-2.ensures.helds c.new-2.ensures.funds
