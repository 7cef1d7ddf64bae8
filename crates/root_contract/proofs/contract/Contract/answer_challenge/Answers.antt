use Rattle.root_contract.proofs.Agreeing.{kept, held-covered, one-covered, moves-paid}
use Rattle.root_contract.proofs.SlotLemmas.{answered}
use Rattle.root_contract.proofs.Standing.{open-slot}
use Rattle.root_contract.proofs.contract.Contract.answer_challenge.Goals as goal

pub respond-requires : goal.respond-requires
respond-requires c = open-slot _ _ _ c.args.coin c.args.block c.args.challenged c.self.invariant
    (rw (← c.self.view_is) at c.requires.open_still)

pub pay_bond-requires-clause-held : goal.pay_bond-requires-clause-held
pay_bond-requires-clause-held c = rw (c.in_ok-know.ensures.helds c.args.by) (one-covered _ c.args.by 40
    (held-covered _ _ _ c.args.call _ _ _ _ c.self.invariant (rw (← c.self.view_is) at c.requires.changes)))

pub invariant_of-self-2 : goal.invariant_of-self-2
invariant_of-self-2 c =
    let known = c.in_ok-know.ensures in
    rw (c.in_ok-push.ensures.ok) (kept _ c.self.inside.game c.respond.new.self _ _ c.args.call _ _ _ _
    c.self.invariant
    (rw (← c.self.view_is) at c.requires.changes)
    (answered c.self.inside.game c.respond.new.self c.args.coin c.args.block c.args.challenged _
    c.self.invariant.slots_are c.respond.ensures)
    (moves-paid _ c.know.new.self _ _ _
    (record { balances = known.balances; helds = known.helds; funds = known.funds }) c.pay_bond.ensures))
