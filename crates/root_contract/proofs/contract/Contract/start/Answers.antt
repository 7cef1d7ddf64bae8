use Rattle.root_contract.proofs.Agreeing.{kept, covered, one-covered, moves-held, same-slots}
use Rattle.root_contract.proofs.SlotLemmas.{added}
use Rattle.root_contract.proofs.Standing.{none-slot, added-there, own, start-taken-back}
use Rattle.root_contract.proofs.contract.Contract.start.Goals as goal

pub start-requires : goal.start-requires
start-requires c = none-slot _ _ _ c.args.slot.coin c.args.slot.block c.self.invariant
    (rw (← c.self.view_is) at c.requires.none)

pub after-requires : goal.after-requires
after-requires c =
    let none = none-slot _ _ _ c.args.slot.coin c.args.slot.block c.self.invariant
    (rw (← c.self.view_is) at c.requires.none) in
    rw (own c.self.inside.game c.start.new.self c.args.slot.coin _ c.in_ok-start.ensures.ok)
    (added-there _ c.args.slot none)

pub invariant_of-self-in-Err : goal.invariant_of-self-in-Err
invariant_of-self-in-Err c =
    let none = none-slot _ _ _ c.args.slot.coin c.args.slot.block c.self.invariant
    (rw (← c.self.view_is) at c.requires.none) in
    rw (c.in-Err.ensures.err) (same-slots _ _ _ _ c.self.invariant
    (start-taken-back c.self.inside.game c.start.new.self c.after.new.self c.args.slot none
    c.in_ok-start.ensures.ok c.after.ensures.others))

pub hold_money-requires : goal.hold_money-requires
hold_money-requires c = one-covered _ c.args.slot.owner.account 100 (covered _ _ _ c.args.call _ _ _ _
    c.self.invariant
    (rw (← c.self.view_is) at c.requires.changes))

pub invariant_of-self-2 : goal.invariant_of-self-2
invariant_of-self-2 c =
    rw (c.in_default.ensures.ok) (kept _ c.self.inside.game c.start.new.self _ _ c.args.call _ _ _ _ c.self.invariant
    (rw (← c.self.view_is) at c.requires.changes)
    (added c.self.inside.game c.start.new.self c.args.slot _ c.self.invariant.slots_are c.in_ok-start.ensures.ok)
    (moves-held _ _ _ _ c.hold_money.ensures))
