use Rattle.plasma_tx.specs.Views.{coin_at, exit_at, is_withdrawn}
use Rattle.root_contract.proofs.Agreeing.{kept, held-covered}
use Rattle.root_contract.proofs.Finishing.{moves-finished, finish-covered}
use Rattle.root_contract.proofs.SlotLemmas.{removed}
use Rattle.root_contract.proofs.Standing.{stands-slot, slot-is}
use Rattle.root_contract.proofs.contract.Contract.settle.Goals as goal

pub finish_exit-requires-clause-stands : goal.finish_exit-requires-clause-stands
finish_exit-requires-clause-stands c = stands-slot _ _ _ c.args.coin c.args.block c.self.invariant
    (rw (← c.self.view_is) at c.requires.stands)

pub finish_exit-requires-clause-held : goal.finish_exit-requires-clause-held
finish_exit-requires-clause-held c = λ a.
    let log = c.self.inside.log.log in
    rw (slot-is _ _ _ c.args.coin c.args.block c.self.invariant)
    (finish-covered c.self.inside.ledger c.know_payer.new.ledger (is_withdrawn log c.args.coin)
    (coin_at log c.args.coin)
    (exit_at log c.args.coin c.args.block) c.unpaid-unpaid.result (rw (← c.self.view_is) at c.unpaid-unpaid.ensures)
    c.in_ok-know_payer.ensures.same
    (held-covered _ _ _ c.args.call _ _ _ _ c.self.invariant (rw (← c.self.view_is) at c.requires.changes)) a)

pub invariant_of-self-2 : goal.invariant_of-self-2
invariant_of-self-2 c =
    let log = c.self.inside.log.log in
    rw (c.in_ok-push.ensures.ok) (kept _ c.self.inside.game c.finish_exit.new.game _ _ c.args.call _ _ _ _
    c.self.invariant (rw (← c.self.view_is) at c.requires.changes)
    (removed c.self.inside.game c.finish_exit.new.game c.args.coin c.args.block _ c.self.invariant.slots_are
    c.finish_exit.ensures.slots)
    (moves-finished c.self.inside.ledger c.know_payer.new.ledger c.finish_exit.new.ledger
    (is_withdrawn log c.args.coin)
    (coin_at log c.args.coin) (exit_at log c.args.coin c.args.block) c.unpaid-unpaid.result
    (rw (← c.self.view_is) at c.unpaid-unpaid.ensures) c.in_ok-know_payer.ensures.same
    (rw (slot-is _ _ _ c.args.coin c.args.block c.self.invariant) at c.finish_exit.ensures.sums)))
