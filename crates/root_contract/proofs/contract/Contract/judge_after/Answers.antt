use Rattle.root_contract.proofs.Words.{◌∙◌, sym, Cancelled, tests_by, as_exit}
use Rattle.root_contract.proofs.Judged.{after-judged}
use Rattle.root_contract.proofs.contract.Contract.judge_after.Goals as goal

pub returns-clause-answer : goal.returns-clause-answer
returns-clause-answer g c =
    after-judged (tests_by (g.H.Hash32.digest_of c.args.h.now)) c.args.self.now.log _
    (as_exit c.in-Some.slot.now) c.args.spend.now.block _ c.judge_spend.result
    c.in-Some.ensures.is (sym c.is_over.ensures ∙ c.if-is_over.false)
    (sym c.is_committed_after.ensures ∙ c.if-not-is_committed_after.false) c.judge_spend.ensures.answer Cancelled
