use Rattle.coin_history.proofs.Words.{◌≡◌, Err, sym, ap, ◌∙◌, err_from_is_err_and, tests_by, NoMemory}
use Rattle.coin_history.proofs.CheckFacts.{refusal-same}
use Rattle.coin_history.proofs.CheckAbsences.{cleared-start, cleared-missing, cleared-looked, cleared-unopened, cleared-present, cleared-next, cleared-behind, cleared-end}
use Rattle.coin_history.proofs.absence.are_absent.Goals as goal

pub loop-opening-init : goal.loop-opening-init
loop-opening-init g c =
    cleared-start (tests_by (g.H.Hash32.digest_of c.args.h.now)) c.args.log.now.log c.args.bundle.now.coin
    c.args.span.low c.args.span.high c.args.bundle.now.openings c.as_slice-opening-items.result.now c.requires.rising
    c.as_slice-opening-items.ensures

pub returns-in-Some-clause-value : goal.returns-in-Some-clause-value
returns-in-Some-clause-value g c given =
    sym (cleared-missing c.loop-opening.invariant c.opening-item.result c.loop-opening-test.true c.opening-item.is
    c.in-Some.n c.in-Some.ensures)

pub returns-in_err-leaf-clause-value : goal.returns-in_err-leaf-clause-value
returns-in_err-leaf-clause-value g c given =
    let p = err_from_is_err_and c.from_residual.result c.from_residual.ensures.1 in
    let is : c.from_residual.result ≡ Err c.in_err-leaf.field-0.0 = p.1 ∙ ap Err p.2 in
    is ∙ sym (cleared-unopened c.loop-opening.invariant c.opening-item.result c.loop-opening-test.true
    c.opening-item.is c.in_default.ensures c.in_err-leaf.field-0.0
    (c.in_err-leaf.ensures.value (λ wrong. given (is ∙ ap Err (refusal-same c.in_err-leaf.field-0.0 NoMemory wrong)))))

pub returns-then-not-is_empty-clause-value : goal.returns-then-not-is_empty-clause-value
returns-then-not-is_empty-clause-value g c given =
    sym (cleared-present c.loop-opening.invariant c.opening-item.result c.loop-opening-test.true c.opening-item.is
    c.in_default.ensures c.in_ok-leaf.leaf (c.in_ok-leaf.ensures.value (λ wrong. cc wrong))
    (sym c.is_empty.ensures ∙ c.if-not-is_empty.true))

pub loop-opening-preserved : goal.loop-opening-preserved
loop-opening-preserved g c =
    cleared-next c.loop-opening.invariant c.opening-item.result c.loop-opening-test.true c.opening-item.is
    c.in_default.ensures c.in_ok-leaf.leaf (c.in_ok-leaf.ensures.value (λ wrong. cc wrong))
    (sym c.is_empty.ensures ∙ c.if-not-is_empty.false) c.next_block-passed.result c.next_block-passed.ensures

pub returns-in-Some-first_asked-clause-value : goal.returns-in-Some-first_asked-clause-value
returns-in-Some-first_asked-clause-value g c given =
    sym (cleared-behind c.loop-opening.invariant c.loop-opening-test.false c.next_block.result c.next_block.ensures
    c.in-Some-first_asked.n c.in-Some-first_asked.ensures)

pub returns-in-None-clause-value : goal.returns-in-None-clause-value
returns-in-None-clause-value g c given =
    sym (cleared-end c.loop-opening.invariant c.loop-opening-test.false c.next_block.result c.next_block.ensures
    c.in-None.ensures)

pub returns-in_err-leaf-clause-memory : goal.returns-in_err-leaf-clause-memory
returns-in_err-leaf-clause-memory g c given =
    let p = err_from_is_err_and c.from_residual.result c.from_residual.ensures.1 in
    let is : c.from_residual.result ≡ Err c.in_err-leaf.field-0.0 = p.1 ∙ ap Err p.2 in
    cleared-looked c.loop-opening.invariant c.opening-item.result c.loop-opening-test.true c.opening-item.is
    c.in_default.ensures
    (c.in_err-leaf.ensures.memory (ap Err (refusal-same c.in_err-leaf.field-0.0 NoMemory (sym is ∙ given))))
