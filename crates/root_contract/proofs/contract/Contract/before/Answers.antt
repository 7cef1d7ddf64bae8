use Rattle.root_contract.proofs.Words.{◌+◌, ◌∙◌, false, sym, refl, ap, Owner, Challenged, Before, now, RESPONSE_WINDOW, tests_by, answer_to}
use Rattle.root_contract.proofs.Called.{takes-stopped, takes-unheld, accepted, before-none, before-changes}
use Rattle.root_contract.proofs.contract.Contract.before.Goals as goal

pub returns-in_err-owner : goal.returns-in_err-owner
unfolding answer_to
returns-in_err-owner g c =
    takes-stopped (tests_by (g.H.Hash32.digest_of c.args.h.now)) c.args.self.now
    (Before c.args.account c.args.coin c.args.exit c.args.shown.now) Owner
    (λ x. Challenged (now c.args.self.now.log + RESPONSE_WINDOW)) c.in_err-owner.field-0.0 c.from_residual.result
    c.from_residual.ensures.1 c.in_err-owner.ensures.answer (λ is. refl)

pub challenge-requires-clause-none : goal.challenge-requires-clause-none
unfolding answer_to
challenge-requires-clause-none g c =
    rw (c.block.ensures)
    (before-none c.args.self.now c.args.account c.args.coin c.args.exit c.args.shown.now
    (accepted (tests_by (g.H.Hash32.digest_of c.args.h.now)) c.args.self.now
    (Before c.args.account c.args.coin c.args.exit c.args.shown.now)
    (Challenged (now c.args.self.now.log + RESPONSE_WINDOW)) c.in_ok-owner.ensures.answer refl))

pub challenge-requires-clause-changes : goal.challenge-requires-clause-changes
unfolding answer_to
challenge-requires-clause-changes g c =
    rw (c.in_ok-copy.ensures)
    (before-changes c.args.self.now c.args.account c.args.coin c.args.exit c.args.shown.now
    (record {
      block = c.block.result;
      owner = c.in_ok-owner.owner;
      by = c.args.account;
      at = c.now.result;
      answered = false;
    }) (rw (c.self.view_is) at c.self.invariant.legal)
    (accepted (tests_by (g.H.Hash32.digest_of c.args.h.now)) c.args.self.now
    (Before c.args.account c.args.coin c.args.exit c.args.shown.now)
    (Challenged (now c.args.self.now.log + RESPONSE_WINDOW)) c.in_ok-owner.ensures.answer refl)
    c.block.ensures c.in_ok-owner.ensures.owner refl (rw (c.self.view_is) at c.now.ensures) refl)

pub returns-in_err-copy : goal.returns-in_err-copy
unfolding answer_to
returns-in_err-copy g c =
    takes-unheld (tests_by (g.H.Hash32.digest_of c.args.h.now)) c.args.self.now _
    (Before c.args.account c.args.coin c.args.exit c.args.shown.now)
    c.from_residual-in_err-copy.result c.from_residual-in_err-copy.ensures.1 refl refl

pub returns-in_err-challenge : goal.returns-in_err-challenge
unfolding answer_to
returns-in_err-challenge g c =
    takes-unheld (tests_by (g.H.Hash32.digest_of c.args.h.now)) c.args.self.now _
    (Before c.args.account c.args.coin c.args.exit c.args.shown.now)
    c.from_residual-in_err-challenge.result c.from_residual-in_err-challenge.ensures.1
    c.in_err-challenge.ensures.err refl

pub returns : goal.returns
unfolding answer_to
returns g c = (
  ap (λ x. Challenged (x + RESPONSE_WINDOW)) c.clock-until.ensures.is ∙ sym c.in_ok-owner.ensures.answer,
  refl,
  rw (c.in_ok-copy.ensures) at c.in_ok-challenge.ensures.ok,
)
