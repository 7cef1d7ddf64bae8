use Rattle.root_contract.proofs.Words.{sym, refl, Cancelled, After, tests_by, answer_to, Owner}
use Rattle.root_contract.proofs.Called.{takes-stopped, takes-unheld, accepted, after-changes}
use Rattle.root_contract.proofs.contract.Contract.after.Goals as goal

pub returns-in_err-judge_after : goal.returns-in_err-judge_after
unfolding answer_to
returns-in_err-judge_after g c =
    takes-stopped (tests_by (g.H.Hash32.digest_of c.args.h.now)) c.args.self.now
    (After c.args.account c.args.coin c.args.exit c.args.spend.now) (Owner)
    (λ x. Cancelled) c.in_err-judge_after.field-0.0
    c.from_residual.result c.from_residual.ensures.1 c.in_err-judge_after.ensures.answer (λ is. refl)

pub cancel-requires-clause-changes : goal.cancel-requires-clause-changes
unfolding answer_to
cancel-requires-clause-changes g c =
    rw (c.in_ok-copy.ensures) (after-changes c.args.self.now c.args.account c.args.coin c.args.exit c.args.spend.now
    (accepted (tests_by (g.H.Hash32.digest_of c.args.h.now)) c.args.self.now
    (After c.args.account c.args.coin c.args.exit c.args.spend.now) (Cancelled) c.in_ok-judge_after.ensures.answer
    refl))

pub returns-in_err-copy : goal.returns-in_err-copy
unfolding answer_to
returns-in_err-copy g c =
    takes-unheld (tests_by (g.H.Hash32.digest_of c.args.h.now)) c.args.self.now _
    (After c.args.account c.args.coin c.args.exit c.args.spend.now)
    c.from_residual-in_err-copy.result c.from_residual-in_err-copy.ensures.1 refl refl

pub returns-in_err-cancel : goal.returns-in_err-cancel
unfolding answer_to
returns-in_err-cancel g c =
    takes-unheld (tests_by (g.H.Hash32.digest_of c.args.h.now)) c.args.self.now _
    (After c.args.account c.args.coin c.args.exit c.args.spend.now)
    c.from_residual-in_err-cancel.result c.from_residual-in_err-cancel.ensures.1 c.in_err-cancel.ensures.err refl

pub returns : goal.returns
unfolding answer_to
returns g c = (sym c.in_ok-judge_after.ensures.answer, refl, rw (c.in_ok-copy.ensures) at c.in_ok-cancel.ensures.ok)
