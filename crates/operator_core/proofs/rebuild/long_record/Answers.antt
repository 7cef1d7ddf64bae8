use Rattle.operator_core.proofs.Words.{◌≡◌, ◌≤◌, ℕ, List, length, take, get_or, sym, subst, arith, take_all, take_more, All-nil, All-push, most, FitJournal}
use Rattle.operator_core.proofs.rebuild.long_record.Goals as goal

pub records-init : goal.records-init
records-init c = All-nil (λ (body : List ℕ). length body ≤ most)

pub records-preserved : goal.records-preserved
records-preserved c =
    let front = take c.records.record-index c.args.records.now in
    let last = get_or c.args.records.now c.records.record-index c.record-item.result in
    subst FitJournal
    (sym (take_more c.args.records.now c.records.record-index c.record-item.result c.records-test.true))
    (All-push (λ (body : List ℕ). length body ≤ most) front last c.records.invariant
    (rw (← c.record-item.is) (omega arith)))

pub returns-clause-none : goal.returns-clause-none
returns-clause-none c = λ any.
    let all : take c.records.record-index c.args.records.now ≡ c.args.records.now =
    take_all c.records.record-index c.args.records.now (omega arith) in
    rw all at c.records.invariant
