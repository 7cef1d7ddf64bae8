use Rattle.root_contract.proofs.Agreeing.{kept, covered, one-covered, moves-held}
use Rattle.root_contract.proofs.contract.Contract.hold.Goals as goal

pub hold_money-requires : goal.hold_money-requires
hold_money-requires c = one-covered _ c.args.account c.args.amount (covered _ _ _ c.args.call _ _ _ _ c.self.invariant
    (rw (← c.self.view_is) at c.requires))

pub invariant_of-self-2 : goal.invariant_of-self-2
invariant_of-self-2 c =
    rw (c.in_ok-push.ensures.ok) (kept _ _ _ _ _ c.args.call _ _ _ _ c.self.invariant
    (rw (← c.self.view_is) at c.requires) c.self.invariant.slots_are (moves-held _ _ _ _ c.hold_money.ensures))
