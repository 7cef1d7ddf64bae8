use Rattle.root_contract.proofs.Words.{◌∙◌, sym, Owner, tests_by, rules_of, owners_are_read, Owners}
use Rattle.plasma_tx.specs.declared.call.Shown.TheVariants.{Spend}
use Rattle.root_contract.proofs.Judged.{start-judged}
use Rattle.root_contract.proofs.contract.Contract.judge_start_spend.Goals as goal

pub returns-in-Err-clause-answer : goal.returns-in-Err-clause-answer
returns-in-Err-clause-answer g c =
    start-judged Owner Owners (tests_by (g.H.Hash32.digest_of c.args.h.now)) c.args.self.now.log c.args.account
    c.args.coin c.args.parent.now c.args.exit.now.block c.block.result _ c.in-Some.made _ c.in-Some-2.owner _
    c.in-Err.stop (sym c.coin_at.ensures ∙ c.in-Some.is) (sym c.is_withdrawn.ensures ∙ c.if-is_withdrawn.false)
    (sym c.is_committed_after.ensures ∙ c.if-not-is_committed_after.false)
    (sym c.is_parent_of.ensures ∙ c.if-not-is_parent_of.false) (sym c.in_ok-owner.ensures ∙ c.in-Some-2.is)
    c.block.ensures c.in-Err.ensures.answer _

pub returns-clause-parent : goal.returns-clause-parent
returns-clause-parent g c =
    let chain = c.args.self.now in
    sym (owners_are_read (tests_by (g.H.Hash32.digest_of c.args.h.now)) (rules_of chain) chain.log c.args.coin
    c.args.parent.now c.in-Some-2.owner (sym c.in_ok-owner.ensures ∙ c.in-Some-2.is))

pub returns-clause-exit : goal.returns-clause-exit
returns-clause-exit g c =
    let chain = c.args.self.now in
    sym (owners_are_read (tests_by (g.H.Hash32.digest_of c.args.h.now)) (rules_of chain) chain.log c.args.coin
    (Spend c.args.exit.now) c.in-Ok.to c.in-Ok.ensures.to)
