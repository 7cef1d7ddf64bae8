use Rattle.root_contract.proofs.Words.{ℕ, sym, refl, Responded, Respond, tests_by, answer_to}
use Rattle.root_contract.proofs.Called.{takes-stopped, takes-unheld, accepted, respond-open, respond-changes}
use Rattle.root_contract.proofs.contract.Contract.respond.Goals as goal

pub returns-in_err-by : goal.returns-in_err-by
unfolding answer_to
returns-in_err-by g c =
    takes-stopped (tests_by (g.H.Hash32.digest_of c.args.h.now)) c.args.self.now
    (Respond c.args.account c.args.coin c.args.exit c.args.challenged c.args.spend.now) ℕ (λ x. Responded)
    c.in_err-by.field-0.0 c.from_residual.result c.from_residual.ensures.1 c.in_err-by.ensures.answer (λ is. refl)

pub answer_challenge-requires-clause-open_still : goal.answer_challenge-requires-clause-open_still
unfolding answer_to
answer_challenge-requires-clause-open_still g c =
    respond-open c.args.self.now c.args.account c.args.coin c.args.exit c.args.challenged c.args.spend.now
    (accepted (tests_by (g.H.Hash32.digest_of c.args.h.now)) c.args.self.now
    (Respond c.args.account c.args.coin c.args.exit c.args.challenged c.args.spend.now) Responded
    c.in_ok-by.ensures.answer refl)

pub answer_challenge-requires-clause-changes : goal.answer_challenge-requires-clause-changes
unfolding answer_to
answer_challenge-requires-clause-changes g c =
    rw (c.in_ok-copy.ensures)
    (respond-changes c.args.self.now c.args.account c.args.coin c.args.exit c.args.challenged c.args.spend.now
    c.in_ok-by.by
    (accepted (tests_by (g.H.Hash32.digest_of c.args.h.now)) c.args.self.now
    (Respond c.args.account c.args.coin c.args.exit c.args.challenged c.args.spend.now) Responded
    c.in_ok-by.ensures.answer refl) c.in_ok-by.ensures.by)

pub returns-in_err-copy : goal.returns-in_err-copy
unfolding answer_to
returns-in_err-copy g c =
    takes-unheld (tests_by (g.H.Hash32.digest_of c.args.h.now)) c.args.self.now _
    (Respond c.args.account c.args.coin c.args.exit c.args.challenged c.args.spend.now)
    c.from_residual-in_err-copy.result c.from_residual-in_err-copy.ensures.1 refl refl

pub returns-in_err-answer_challenge : goal.returns-in_err-answer_challenge
unfolding answer_to
returns-in_err-answer_challenge g c =
    takes-unheld (tests_by (g.H.Hash32.digest_of c.args.h.now)) c.args.self.now _
    (Respond c.args.account c.args.coin c.args.exit c.args.challenged c.args.spend.now)
    c.from_residual-in_err-answer_challenge.result c.from_residual-in_err-answer_challenge.ensures.1
    c.in_err-answer_challenge.ensures.err refl

pub returns : goal.returns
unfolding answer_to
returns g c = (
  sym c.in_ok-by.ensures.answer,
  refl,
  rw (c.in_ok-copy.ensures) at c.in_ok-answer_challenge.ensures.ok,
)
