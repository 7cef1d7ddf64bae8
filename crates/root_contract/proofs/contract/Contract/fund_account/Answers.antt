use Rattle.root_contract.proofs.Words.{◌+◌, ◌∷◌, [], ◌∙◌, ap, moved, share_of}
use Rattle.root_contract.proofs.Agreeing.{kept-fund, fund-fits}
use Rattle.root_contract.proofs.contract.Contract.fund_account.Goals as goal

pub add_money-requires-clause-fits : goal.add_money-requires-clause-fits
add_money-requires-clause-fits c = fund-fits _ _ _ c.args.account c.args.amount c.self.invariant
    (rw (← c.self.view_is) at c.requires) c.know.new.self c.in_ok-know.ensures.funds

pub invariant_of-self-2 : goal.invariant_of-self-2
invariant_of-self-2 c =
    let known = c.in_ok-know.ensures in
    let one = moved c.args.account c.args.amount ∷ [] in
    rw (c.in_ok-push.ensures.ok) (kept-fund _ _ _ _ c.args.account c.args.amount c.self.invariant
    (rw (← c.self.view_is) at c.requires)
    (λ a. c.add_money.ensures.balances a ∙ ap (λ x. x + share_of a one) (known.balances a))
    (λ a. c.add_money.ensures.helds a ∙ known.helds a)
    (c.add_money.ensures.funds ∙ ap (λ x. x + c.args.amount) known.funds))
