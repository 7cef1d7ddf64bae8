use Rattle.std.proofs.Common.{ℕ, List, ◌<◌, ◌≤◌, true, false, sym, ap, ◌∙◌, subst}
use Rattle.receipt_audit.specs.Promises.{promise_in}
use Rattle.receipt_audit.proofs.AuditTests.{verified, unsigned-answer, early-answer, due-answer}
use Rattle.receipt_audit.proofs.audit.audited.Goals as goal

pub returns-then-not-verify-clause-value : goal.returns-then-not-verify-clause-value
returns-then-not-verify-clause-value g c given =
    unsigned-answer (g.H.Hash32.digest_of c.args.h.now) c.args.log.now c.args.key.now c.args.receipt.now
    c.args.bundle.now c.in-Some.promise
    (c.in-Some.ensures.value ∙ ap (λ (tag : List ℕ). promise_in tag c.args.receipt.now) c.tag.ensures)
    c.in-Ok.ensures.1
    (verified c.args.key.now c.in-Ok.key c.args.receipt.now c.verify.result false c.in-Ok.ensures.0 c.verify.ensures
    c.if-not-verify.true)

pub returns-then-blocks-promise-clause-value : goal.returns-then-blocks-promise-clause-value
returns-then-blocks-promise-clause-value g c given =
    early-answer (g.H.Hash32.digest_of c.args.h.now) c.args.log.now c.args.key.now c.args.receipt.now
    c.args.bundle.now c.in-Some.promise
    (c.in-Some.ensures.value ∙ ap (λ (tag : List ℕ). promise_in tag c.args.receipt.now) c.tag.ensures)
    c.in-Ok.ensures.1
    (verified c.args.key.now c.in-Ok.key c.args.receipt.now c.verify.result true c.in-Ok.ensures.0 c.verify.ensures
    c.if-not-verify.false)
    (subst (λ (n : ℕ). n < c.in-Some.promise.due) c.blocks-2.ensures.is c.if-blocks-promise.true)

pub returns-clause-value : goal.returns-clause-value
returns-clause-value g c given =
    c.shown_by.ensures.value given
    ∙ due-answer (g.H.Hash32.digest_of c.args.h.now) c.args.log.now c.args.key.now c.args.receipt.now
    c.args.bundle.now c.in-Some.promise
    (c.in-Some.ensures.value ∙ ap (λ (tag : List ℕ). promise_in tag c.args.receipt.now) c.tag.ensures)
    c.in-Ok.ensures.1
    (verified c.args.key.now c.in-Ok.key c.args.receipt.now c.verify.result true c.in-Ok.ensures.0 c.verify.ensures
    c.if-not-verify.false)
    (subst (λ (n : ℕ). c.in-Some.promise.due ≤ n) c.blocks-2.ensures.is c.if-blocks-promise.false)

pub returns-clause-memory : goal.returns-clause-memory
returns-clause-memory g c given = record {
  promise = c.in-Some.promise;
  is_promise = sym (c.in-Some.ensures.value ∙ ap (λ (tag : List ℕ). promise_in tag c.args.receipt.now) c.tag.ensures);
  supported = c.in-Ok.ensures.1;
  signed = verified c.args.key.now c.in-Ok.key c.args.receipt.now c.verify.result true c.in-Ok.ensures.0
      c.verify.ensures c.if-not-verify.false;
  there = subst (λ (n : ℕ). c.in-Some.promise.due ≤ n) c.blocks-2.ensures.is c.if-blocks-promise.false;
}
