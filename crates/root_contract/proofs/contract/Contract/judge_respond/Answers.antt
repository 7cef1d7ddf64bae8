use Rattle.root_contract.proofs.Words.{ℕ, ◌∙◌, sym, le-leb, Responded, Owner, tests_by, as_exit, as_challenge}
use Rattle.root_contract.proofs.Judged.{respond-judged}
use Rattle.root_contract.proofs.contract.Contract.judge_respond.Goals as goal

pub returns-in-Err-clause-answer : goal.returns-in-Err-clause-answer
returns-in-Err-clause-answer g c =
    respond-judged Owner ℕ (tests_by (g.H.Hash32.digest_of c.args.h.now)) c.args.self.now.log _
    (as_exit c.in-Some.slot.now) c.args.challenged c.args.spend.now.block
    (as_challenge c.in-Some-challenge_at.challenge) _ c.in-Err.stop c.in-Some.ensures.is
    c.in-Some-challenge_at.ensures.is c.if-challenge.false (sym c.is_over.ensures ∙ c.if-is_over.false)
    (sym c.is_committed_after.ensures ∙ c.if-not-is_committed_after.false)
    (le-leb c.args.spend.now.block c.in-Some.slot.now.parent c.if-spend-slot.false) c.in-Err.ensures.answer Responded
