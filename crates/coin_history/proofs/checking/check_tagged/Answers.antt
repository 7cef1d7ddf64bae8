use Rattle.coin_history.proofs.Words.{◌≡◌, sym, ap, ◌∙◌, true≢false, CoinView, some_same, may_be_tip}
use Rattle.coin_history.proofs.CheckFacts.{tip-made}
use Rattle.coin_history.proofs.checking.check_tagged.Goals as goal

pub links_of-requires-clause-made : goal.links_of-requires-clause-made
links_of-requires-clause-made g c =
    tip-made c.args.log.now.log c.args.bundle.now.coin c.args.bundle.now.tip c.in-Some.made
    (sym c.coin.ensures ∙ c.in-Some.is) (sym c.may_be_tip.ensures ∙ c.if-not-may_be_tip.false)

pub returns-clause-memory : goal.returns-clause-memory
returns-clause-memory g c given = record {
  made = c.in-Some.made;
  coin = sym c.coin.ensures ∙ c.in-Some.is;
  tip = sym c.may_be_tip.ensures ∙ c.if-not-may_be_tip.false;
  looks = c.links_of.ensures.memory given;
}

pub returns-clause-coin : goal.returns-clause-coin
returns-clause-coin g c none = absurd (cc (none, sym c.coin.ensures ∙ c.in-Some.is))

pub returns-clause-tip : goal.returns-clause-tip
returns-clause-tip g c made coin isnt =
    let same : made ≡ c.in-Some.made =
    some_same made c.in-Some.made (sym coin ∙ sym c.coin.ensures ∙ c.in-Some.is) in
    let may = sym c.may_be_tip.ensures ∙ c.if-not-may_be_tip.false in
    absurd (true≢false (sym may
    ∙ ap (λ (m : CoinView). may_be_tip c.args.log.now.log m.deposit c.args.bundle.now.tip) (sym same) ∙ isnt))
