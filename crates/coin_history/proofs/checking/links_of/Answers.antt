use Rattle.coin_history.proofs.Words.{◌≡◌, Err, sym, ap, ◌∙◌, err_from_is_err_and, NoMemory, tagged, tests_by, is_asked, leaf_of_opening}
use Rattle.coin_history.proofs.CheckFacts.{refusal-same, opened-asked}
use Rattle.coin_history.proofs.CheckLinks.{walked-start, walked-missing, walked-looked, walked-unopened, walked-unlinked, walked-next, walked-behind, walked-end}
use Rattle.coin_history.proofs.checking.links_of.Goals as goal

pub loop-opening-init : goal.loop-opening-init
loop-opening-init g c =
    walked-start (tests_by (g.H.Hash32.digest_of c.args.h.now)) (tagged c.args.tag.now) c.args.log.now.log
    c.args.made.now c.args.bundle.now c.as_slice-opening-items.result.now c.new-spends.result.items c.requires.rising
    c.as_slice-opening-items.ensures c.new-spends.ensures.items

pub returns-in-Some-clause-value : goal.returns-in-Some-clause-value
returns-in-Some-clause-value g c given =
    sym (walked-missing c.loop-opening.invariant c.opening-item.result c.loop-opening-test.true c.opening-item.is
    c.in-Some.n c.in-Some.ensures)

pub returns-in_err-leaf-clause-value : goal.returns-in_err-leaf-clause-value
returns-in_err-leaf-clause-value g c given =
    let p = err_from_is_err_and c.from_residual.result c.from_residual.ensures.1 in
    let is : c.from_residual.result ≡ Err c.in_err-leaf.field-0.0 = p.1 ∙ ap Err p.2 in
    is ∙ sym (walked-unopened c.loop-opening.invariant c.opening-item.result c.loop-opening-test.true
    c.opening-item.is c.in_default.ensures c.in_err-leaf.field-0.0
    (c.in_err-leaf.ensures.value (λ wrong. given (is ∙ ap Err (refusal-same c.in_err-leaf.field-0.0 NoMemory wrong)))))

pub returns-in_err-next-clause-value : goal.returns-in_err-next-clause-value
returns-in_err-next-clause-value g c given =
    let p = err_from_is_err_and c.from_residual-in_err-next.result c.from_residual-in_err-next.ensures.1 in
    let is : c.from_residual-in_err-next.result ≡ Err c.in_err-next.field-0.0 = p.1 ∙ ap Err p.2 in
    is ∙ sym (walked-unlinked c.loop-opening.invariant c.opening-item.result c.loop-opening-test.true
    c.opening-item.is c.in_default.ensures c.in_ok-leaf.leaf (c.in_ok-leaf.ensures.value (λ wrong. cc wrong))
    c.as_slice.result.now c.as_slice.ensures.value c.in_err-next.field-0.0
    (c.in_err-next.ensures (g.H.Hash32.digest_of c.args.h.now)
    (λ wrong. given (is ∙ ap Err (refusal-same c.in_err-next.field-0.0 NoMemory wrong)))))

pub loop-opening-preserved : goal.loop-opening-preserved
loop-opening-preserved g c =
    walked-next c.loop-opening.invariant c.opening-item.result c.loop-opening-test.true c.opening-item.is
    c.in_default.ensures c.in_ok-leaf.leaf (c.in_ok-leaf.ensures.value (λ wrong. cc wrong)) c.as_slice.result.now
    c.as_slice.ensures.value c.in_ok-next.next
    (c.in_ok-next.ensures (g.H.Hash32.digest_of c.args.h.now) (λ wrong. cc wrong)) c.push_link.new.spends.items
    c.in_ok-push_link.ensures c.next_block-passed.result c.next_block-passed.ensures

pub returns-in-Some-first_asked-clause-value : goal.returns-in-Some-first_asked-clause-value
returns-in-Some-first_asked-clause-value g c given =
    sym (walked-behind c.loop-opening.invariant c.loop-opening-test.false c.next_block.result c.next_block.ensures
    c.in-Some-first_asked.n c.in-Some-first_asked.ensures)

pub returns-in-None-clause-value : goal.returns-in-None-clause-value
returns-in-None-clause-value g c given =
    sym (walked-end c.loop-opening.invariant c.loop-opening-test.false c.next_block.result c.next_block.ensures
    c.in-None.ensures c.from_vec.result c.from_vec.ensures)

pub returns-in_err-leaf-clause-memory : goal.returns-in_err-leaf-clause-memory
returns-in_err-leaf-clause-memory g c given =
    let p = err_from_is_err_and c.from_residual.result c.from_residual.ensures.1 in
    let is : c.from_residual.result ≡ Err c.in_err-leaf.field-0.0 = p.1 ∙ ap Err p.2 in
    walked-looked c.loop-opening.invariant c.opening-item.result c.loop-opening-test.true c.opening-item.is
    c.in_default.ensures
    (c.in_err-leaf.ensures.memory (ap Err (refusal-same c.in_err-leaf.field-0.0 NoMemory (sym is ∙ given))))

pub returns-in_err-next-clause-memory : goal.returns-in_err-next-clause-memory
returns-in_err-next-clause-memory g c given =
    walked-looked c.loop-opening.invariant c.opening-item.result c.loop-opening-test.true c.opening-item.is
    c.in_default.ensures
    (opened-asked (tests_by (g.H.Hash32.digest_of c.args.h.now)) c.args.log.now.log c.args.bundle.now.coin
    (is_asked c.args.log.now.log c.args.made.now.deposit c.args.bundle.now.tip c.opening-item.result.block)
    c.opening-item.result (leaf_of_opening c.opening-item.result) c.in_ok-leaf.leaf
    (sym (c.in_ok-leaf.ensures.value (λ wrong. cc wrong))))

pub returns-in_err-push_link-clause-memory : goal.returns-in_err-push_link-clause-memory
returns-in_err-push_link-clause-memory g c given =
    walked-looked c.loop-opening.invariant c.opening-item.result c.loop-opening-test.true c.opening-item.is
    c.in_default.ensures
    (opened-asked (tests_by (g.H.Hash32.digest_of c.args.h.now)) c.args.log.now.log c.args.bundle.now.coin
    (is_asked c.args.log.now.log c.args.made.now.deposit c.args.bundle.now.tip c.opening-item.result.block)
    c.opening-item.result (leaf_of_opening c.opening-item.result) c.in_ok-leaf.leaf
    (sym (c.in_ok-leaf.ensures.value (λ wrong. cc wrong))))
