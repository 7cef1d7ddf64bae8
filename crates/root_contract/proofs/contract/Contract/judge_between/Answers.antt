use Rattle.root_contract.proofs.Words.{◌∙◌, sym, ne_eqb, Cancelled, tests_by, as_exit}
use Rattle.root_contract.proofs.Judged.{between-judged}
use Rattle.root_contract.proofs.contract.Contract.judge_between.Goals as goal

pub returns-clause-answer : goal.returns-clause-answer
returns-clause-answer g c =
    between-judged (tests_by (g.H.Hash32.digest_of c.args.h.now)) c.args.self.now.log _
    (as_exit c.in-Some.slot.now) c.args.spend.now.block _ c.judge_spend.result
    c.in-Some.ensures.is (sym c.is_over.ensures ∙ c.if-is_over.false)
    (ne_eqb c.in-Some.slot.now.parent 0 c.if-slot-eq0.false)
    (sym c.is_committed_between.ensures ∙ c.if-not-is_committed_between.false) c.judge_spend.ensures.answer Cancelled
