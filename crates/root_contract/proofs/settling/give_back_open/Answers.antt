use Rattle.std.proofs.Common.{◌∙◌, arith}
use Rattle.root_contract.proofs.SettlingLemmas.{share-cut, share-empty}
use Rattle.root_contract.proofs.settling.give_back_open.Goals as goal

pub give_back_if_open-requires : goal.give_back_if_open-requires
give_back_if_open-requires c = λ a.
    let cut = share-cut c.challenges.rest.now c.in-Some.challenge.now c.in-Some.others.now
    c.in-Some.ensures.cases.0 a in
    omega (arith, cut, c.challenges.invariant.helds a, c.requires a)

pub challenges-preserved : goal.challenges-preserved
challenges-preserved c =
    let before = c.challenges.invariant in
    let given = c.give_back_if_open.ensures in
    let cut = share-cut c.challenges.rest.now c.in-Some.challenge.now c.in-Some.others.now
    c.in-Some.ensures.cases.0 in record {
      balances = λ a. omega (arith, cut a, before.balances a, given.balances a);
      helds = λ a. omega (arith, cut a, before.helds a, given.helds a, c.requires a);
      known = λ a. given.known a ∙ before.known a;
      funds = given.funds ∙ before.funds;
    }

pub returns : goal.returns
returns c =
    let after = c.challenges.invariant in
    let none = share-empty c.challenges.rest.now c.in_default.ensures.cases in record {
      balances = λ a. omega (arith, none a, after.balances a);
      helds = λ a. omega (arith, none a, after.helds a);
      known = after.known;
      funds = after.funds;
    }
