use Rattle.std.proofs.Common.{arith}
use Rattle.root_contract.proofs.Moving.{known-held, paid-on}
use Rattle.root_contract.proofs.effects.pay_bond.Goals as goal

pub pay_held-requires-clause-from : goal.pay_held-requires-clause-from
pay_held-requires-clause-from c = known-held c.args.ledger.now c.args.from 40 c.requires.held (omega arith)

pub returns : goal.returns
returns c = paid-on c.args.ledger.now c.pay_held.new.self c.args.from c.args.to 40 c.pay_held.ensures
