use Rattle.root_contract.proofs.Agreeing.{kept, held-covered, moves-paid}
use Rattle.root_contract.proofs.SlotLemmas.{removed}
use Rattle.root_contract.proofs.Standing.{stands-slot, slot-is}
use Rattle.root_contract.proofs.contract.Contract.cancel.Goals as goal

pub cancel_exit-requires-clause-stands : goal.cancel_exit-requires-clause-stands
cancel_exit-requires-clause-stands c = stands-slot _ _ _ c.args.coin c.args.block c.self.invariant
    (rw (← c.self.view_is) at c.requires.stands)

pub cancel_exit-requires-clause-held : goal.cancel_exit-requires-clause-held
cancel_exit-requires-clause-held c = λ a.
    rw (slot-is _ _ _ c.args.coin c.args.block c.self.invariant, c.in_ok-know.ensures.helds a)
    (held-covered _ _ _ c.args.call _ _ _ _ c.self.invariant (rw (← c.self.view_is) at c.requires.changes) a)

pub invariant_of-self-2 : goal.invariant_of-self-2
invariant_of-self-2 c =
    let known = c.in_ok-know.ensures in
    rw (c.in_ok-push.ensures.ok) (kept _ c.self.inside.game c.cancel_exit.new.game _ _ c.args.call _ _ _ _
    c.self.invariant (rw (← c.self.view_is) at c.requires.changes)
    (removed c.self.inside.game c.cancel_exit.new.game c.args.coin c.args.block _ c.self.invariant.slots_are
    c.cancel_exit.ensures.slots)
    (moves-paid _ c.know.new.self _ _ _
    (record { balances = known.balances; helds = known.helds; funds = known.funds })
    (rw (slot-is _ _ _ c.args.coin c.args.block c.self.invariant) at c.cancel_exit.ensures.sums)))
