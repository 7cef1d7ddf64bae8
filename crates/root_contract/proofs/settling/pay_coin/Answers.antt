use Rattle.std.proofs.Common.{refl, arith}
use Rattle.root_contract.proofs.SettlingLemmas.{amount-own, share-unpaid, share-to, share-paid_up, share-to_none}
use Rattle.root_contract.proofs.settling.pay_coin.Goals as goal

pub pay_held-requires-clause-held : goal.pay_held-requires-clause-held
pay_held-requires-clause-held c =
    let coin = c.in-Some.coin in
    omega (
      arith,
      share-unpaid c.args.unpaid coin c.in-Some.is coin.account,
      amount-own coin.account coin.amount,
      c.requires.held coin.account,
    )

pub returns-in-Some : goal.returns-in-Some
returns-in-Some c =
    let given = c.pay_held.ensures in
    let less = share-unpaid c.args.unpaid c.in-Some.coin c.in-Some.is in
    let more = share-to c.args.unpaid c.in-Some.coin c.args.to c.in-Some.is in record {
      balances = λ a. omega (arith, given.balances a, more a);
      helds = λ a. omega (arith, given.helds a, less a);
      known = given.known;
      funds = given.funds;
    }

pub returns-in_default : goal.returns-in_default
returns-in_default c =
    let less = share-paid_up c.args.unpaid c.in_default.is in
    let more = share-to_none c.args.unpaid c.args.to c.in_default.is in record {
      balances = λ a. omega (arith, more a);
      helds = λ a. omega (arith, less a);
      known = λ a. refl;
      funds = refl;
    }
