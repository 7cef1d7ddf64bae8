use Rattle.root_contract.proofs.Agreeing.{kept, moves-none}
use Rattle.root_contract.proofs.contract.Contract.keep.Goals as goal

pub invariant_of-self-2 : goal.invariant_of-self-2
invariant_of-self-2 c =
    rw (c.in_ok-push.ensures.ok) (kept _ _ _ _ _ c.args.call _ _ _ _ c.self.invariant
    (rw (← c.self.view_is) at c.requires) c.self.invariant.slots_are (moves-none _))
