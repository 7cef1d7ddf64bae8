use Rattle.root_contract.proofs.Words.{◌∙◌, sym, tests_by, rules_of, owners_are_read}
use Rattle.root_contract.proofs.contract.Contract.judge_before.Goals as goal

pub returns-clause-owner : goal.returns-clause-owner
returns-clause-owner g c =
    let chain = c.args.self.now in
    sym (owners_are_read (tests_by (g.H.Hash32.digest_of c.args.h.now)) (rules_of chain) chain.log c.args.coin
    c.args.shown.now c.in-Some-2.owner (sym c.in_ok-owner.ensures ∙ c.in-Some-2.is))
