use Rattle.std.proofs.lemmas.Result.{err_from_is_err_and}
use Rattle.coin_history.proofs.BundleItems.{HaveRead-more, HaveRead-refused, HaveRead-all, HaveRead-whole, low_of}
use Rattle.coin_history.proofs.HistoryRefusals.{item-own}
use Rattle.coin_history.proofs.reading.items_at.Goals as goal

pub loop-preserved : goal.loop-preserved
loop-preserved c =
    HaveRead-more c.args.bytes.now c.args.place c.args.count c.loop.openings.items c.loop.end (low_of c.loop.before)
    c.loop.counter c.loop.invariant c.push_opening.new.openings.items
    (record { block = c.in_ok-item.item.block; bytes = c.in_ok-item.item.opening.now }) c.in_ok-item.item.end
    c.loop-test.true c.in_ok-item.ensures.within c.in_ok-push_opening.ensures c.in_ok-item.ensures.ok

pub returns-in_err-item-clause-err : goal.returns-in_err-item-clause-err
returns-in_err-item-clause-err c =
    let p = err_from_is_err_and c.from_residual.result c.from_residual.ensures.1 in
    rw (p.1, p.2) (λ _. HaveRead-refused c.args.bytes.now c.args.place c.args.count c.loop.openings.items c.loop.end
    (low_of c.loop.before) c.loop.counter c.loop.invariant c.in_err-item.field-0.0 c.loop-test.true
    c.in_err-item.ensures.err)

pub returns-clause-ok : goal.returns-clause-ok
returns-clause-ok c =
    rw c.from_vec.ensures (HaveRead-all c.args.bytes.now c.args.place c.args.count c.loop.openings.items c.loop.end
    (low_of c.loop.before) c.loop.counter c.loop.invariant c.loop-test.false)

pub returns-in_err-item-clause-memory : goal.returns-in_err-item-clause-memory
returns-in_err-item-clause-memory c =
    let p = err_from_is_err_and c.from_residual.result c.from_residual.ensures.1 in
    rw (p.1, p.2) (λ is. absurd (item-own c.args.bytes.now c.loop.end (low_of c.loop.before) 1
    c.in_err-item.field-0.0 (c.in_err-item.ensures.err 0) is))

pub returns-in_err-push_opening-clause-memory : goal.returns-in_err-push_opening-clause-memory
returns-in_err-push_opening-clause-memory c =
    let p = err_from_is_err_and c.from_residual-in_err-push_opening.result
    c.from_residual-in_err-push_opening.ensures.1 in
    rw p.1 (λ is. HaveRead-whole c.args.bytes.now c.args.place c.args.count c.loop.openings.items c.loop.end
    (low_of c.loop.before) c.loop.counter c.loop.invariant
    (record { block = c.in_ok-item.item.block; bytes = c.in_ok-item.item.opening.now }) c.in_ok-item.item.end
    c.loop-test.true c.in_ok-item.ensures.ok)
