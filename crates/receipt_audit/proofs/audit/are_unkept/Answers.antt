use Rattle.std.proofs.Common.{◌≡◌, Err, sym, ap, ◌∙◌}
use Rattle.std.proofs.lemmas.Result.{err_from_is_err_and}
use Rattle.plasma_tx.specs.Shown.{tests_by}
use Rattle.coin_history.specs.declared.refusal.HistoryRefusal.TheVariants.{NoMemory}
use Rattle.coin_history.proofs.CheckFacts.{refusal-same}
use Rattle.receipt_audit.proofs.CheckBreaches.{opened-leaf, cleared-start, cleared-missing, cleared-unopened, cleared-kept, cleared-next, cleared-behind, cleared-end}
use Rattle.receipt_audit.proofs.Items.{some-inside}
use Rattle.receipt_audit.proofs.audit.are_unkept.Goals as goal

pub loop-opening-init : goal.loop-opening-init
loop-opening-init g c =
    cleared-start (tests_by (g.H.Hash32.digest_of c.args.h.now)) (g.H.Hash32.digest_of c.args.h.now)
    c.args.log.now.log c.args.promise.now c.args.bundle.now.openings c.as_slice-opening-items.result.now
    c.requires.rising c.as_slice-opening-items.ensures

pub returns-in-Some-clause-value : goal.returns-in-Some-clause-value
returns-in-Some-clause-value g c given =
    sym (cleared-missing c.loop-opening.invariant c.opening-item.result c.loop-opening-test.true c.opening-item.is
    c.in-Some.n c.in-Some.ensures)

pub returns-in_err-leaf-clause-value : goal.returns-in_err-leaf-clause-value
returns-in_err-leaf-clause-value g c given =
    let p = err_from_is_err_and c.from_residual.result c.from_residual.ensures.1 in
    let is : c.from_residual.result ≡ Err c.in_err-leaf.field-0.0 = p.1 ∙ ap Err p.2 in
    is ∙ sym (cleared-unopened c.loop-opening.invariant c.opening-item.result c.loop-opening-test.true
    c.opening-item.is c.in_default.ensures c.in_err-leaf.field-0.0
    (c.in_err-leaf.ensures.value (λ wrong. given (is ∙ ap Err (refusal-same c.in_err-leaf.field-0.0 NoMemory wrong)))))

pub is_kept-requires : goal.is_kept-requires
is_kept-requires g c =
    c.as_slice.ensures
    ∙ opened-leaf (tests_by (g.H.Hash32.digest_of c.args.h.now)) c.args.log.now.log c.args.promise.now
    c.opening-item.result c.in_ok-leaf.leaf (c.in_ok-leaf.ensures.value (λ wrong. cc wrong))

pub returns-then-is_kept-clause-value : goal.returns-then-is_kept-clause-value
returns-then-is_kept-clause-value g c given =
    sym (cleared-kept c.loop-opening.invariant c.opening-item.result c.loop-opening-test.true c.opening-item.is
    c.in_default.ensures c.in_ok-leaf.leaf (c.in_ok-leaf.ensures.value (λ wrong. cc wrong))
    (sym c.is_kept.ensures ∙ c.if-is_kept.true))

pub loop-opening-preserved : goal.loop-opening-preserved
loop-opening-preserved g c =
    cleared-next c.loop-opening.invariant c.opening-item.result c.loop-opening-test.true c.opening-item.is
    c.in_default.ensures c.in_ok-leaf.leaf (c.in_ok-leaf.ensures.value (λ wrong. cc wrong))
    (sym c.is_kept.ensures ∙ c.if-is_kept.false) c.next_block-passed.result c.next_block-passed.ensures

pub returns-in-Some-first_asked-clause-value : goal.returns-in-Some-first_asked-clause-value
returns-in-Some-first_asked-clause-value g c given =
    sym (cleared-behind c.loop-opening.invariant c.loop-opening-test.false c.next_block.result c.next_block.ensures
    c.in-Some-first_asked.n c.in-Some-first_asked.ensures)

pub returns-in-None-clause-value : goal.returns-in-None-clause-value
returns-in-None-clause-value g c given =
    sym (cleared-end c.loop-opening.invariant c.loop-opening-test.false c.next_block.result c.next_block.ensures
    c.in-None.ensures)

pub returns-in_err-leaf-clause-some : goal.returns-in_err-leaf-clause-some
returns-in_err-leaf-clause-some g c given =
    some-inside c.as_slice-opening-items.result.now c.args.bundle.now.openings c.as_slice-opening-items.ensures
    c.loop-opening-test.true
