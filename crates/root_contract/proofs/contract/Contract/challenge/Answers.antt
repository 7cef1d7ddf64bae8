use Rattle.root_contract.proofs.Agreeing.{kept, covered, one-covered, moves-held, same-slots}
use Rattle.root_contract.proofs.SlotLemmas.{challenged, exits-apart}
use Rattle.root_contract.proofs.Standing.{unchallenged-slot, challenged-there, own, challenge-taken-back}
use Rattle.root_contract.proofs.contract.Contract.challenge.Goals as goal

pub before-requires : goal.before-requires
before-requires c = unchallenged-slot _ _ _ c.args.coin c.args.block c.args.challenge.block c.self.invariant
    (rw (← c.self.view_is) at c.requires.none)

pub unchallenge-requires : goal.unchallenge-requires
unchallenge-requires c =
    let none = unchallenged-slot _ _ _ c.args.coin c.args.block c.args.challenge.block c.self.invariant
    (rw (← c.self.view_is) at c.requires.none) in
    rw (own c.self.inside.game c.before-2.new.self c.args.coin _ c.in_ok-before.ensures.ok)
    (challenged-there c.args.challenge.block c.args.block c.args.challenge _ none)

pub invariant_of-self-in-Err : goal.invariant_of-self-in-Err
invariant_of-self-in-Err c =
    rw (c.in-Err.ensures.err) (same-slots _ _ _ _ c.self.invariant
    (challenge-taken-back c.self.inside.game c.before-2.new.self c.unchallenge.new.self c.args.coin c.args.block
    c.args.challenge c.in_ok-before.ensures.ok c.unchallenge.ensures))

pub hold_money-requires : goal.hold_money-requires
hold_money-requires c = one-covered _ c.args.challenge.by 40 (covered _ _ _ c.args.call _ _ _ _ c.self.invariant
    (rw (← c.self.view_is) at c.requires.changes))

pub invariant_of-self-2 : goal.invariant_of-self-2
invariant_of-self-2 c =
    let none = unchallenged-slot _ _ _ c.args.coin c.args.block c.args.challenge.block c.self.invariant
    (rw (← c.self.view_is) at c.requires.none) in
    rw (c.in_default.ensures.ok) (kept _ c.self.inside.game c.before-2.new.self _ _ c.args.call _ _ _ _
    c.self.invariant
    (rw (← c.self.view_is) at c.requires.changes)
    (challenged c.self.inside.game c.before-2.new.self c.args.coin c.args.block c.args.challenge _ (exits-apart _)
    c.self.invariant.slots_are none c.in_ok-before.ensures.ok)
    (moves-held _ _ _ _ c.hold_money.ensures))
