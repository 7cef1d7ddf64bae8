use Rattle.root_contract.proofs.Standing.{slot-is, slot-dated}
use Rattle.root_contract.proofs.contract.Contract.exit_at.Goals as goal

pub returns-clause-is : goal.returns-clause-is
returns-clause-is c = rw (c.slot.ensures, ← c.self.view_is) (slot-is _ _ _ c.args.coin c.args.block c.self.invariant)

pub returns-clause-dated : goal.returns-clause-dated
returns-clause-dated c = slot-dated _ _ _ c.args.coin c.args.block c.self.invariant c.slot.result c.slot.ensures
