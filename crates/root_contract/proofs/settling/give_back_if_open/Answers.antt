use Rattle.root_contract.proofs.Words.{refl, arith, held_is_of_known}
use Rattle.root_contract.proofs.SettlingLemmas.{share-open, share-answered, share-by}
use Rattle.root_contract.proofs.settling.give_back_if_open.Goals as goal

pub give_back-requires-clause-known : goal.give_back-requires-clause-known
give_back-requires-clause-known c =
    let challenge = c.args.challenge.now in
    held_is_of_known c.args.ledger.now challenge.by
    (omega (arith, share-by challenge c.if-not-challenge.true, c.requires challenge.by))

pub give_back-requires-clause-held : goal.give_back-requires-clause-held
give_back-requires-clause-held c =
    let challenge = c.args.challenge.now in
    omega (arith, share-by challenge c.if-not-challenge.true, c.requires challenge.by)

pub returns-then-not-challenge : goal.returns-then-not-challenge
returns-then-not-challenge c =
    let given = c.give_back.ensures in
    let share = share-open c.args.challenge.now c.if-not-challenge.true in record {
      balances = λ a. omega (arith, given.balances a, share a);
      helds = λ a. omega (arith, given.helds a, share a);
      known = given.known;
      funds = given.funds;
    }

pub returns-else-not-challenge : goal.returns-else-not-challenge
returns-else-not-challenge c =
    let share = share-answered c.args.challenge.now c.if-not-challenge.false in record {
      balances = λ a. omega (arith, share a);
      helds = λ a. omega (arith, share a);
      known = λ a. refl;
      funds = refl;
    }
