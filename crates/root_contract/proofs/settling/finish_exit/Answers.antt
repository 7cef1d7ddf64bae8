use Rattle.root_contract.proofs.Words.{sym, ◌∙◌, arith, slot_at, slots_in, EXIT_BOND, held_is_of_known}
use Rattle.root_contract.proofs.SettlingLemmas.{amount-own, share-first_open, share-paid_open, share-released_open, share-paid, share-released}
use Rattle.root_contract.proofs.settling.finish_exit.Goals as goal

-- ---- where a challenge is open

pub pay_held-requires-clause-from : goal.pay_held-requires-clause-from
pay_held-requires-clause-from c =
    let slot = c.finish-slot.result in
    let stood = slot_at c.args.block (slots_in c.args.game.now c.args.coin) in
    let lent = c.as_slice-challenges.result.now in
    let same = c.as_slice-challenges.ensures in
    let first = sym c.in-Some.ensures in
    let released = share-released_open c.args.unpaid stood slot c.in-Some.challenger lent c.finish-slot.ensures.slot
    same first in
    let owner = slot.owner.account in
    held_is_of_known c.args.ledger.now owner
    (omega (arith, released owner, amount-own owner EXIT_BOND, c.requires.held owner))

pub pay_held-requires-clause-to : goal.pay_held-requires-clause-to
pay_held-requires-clause-to c =
    let slot = c.finish-slot.result in
    let stood = slot_at c.args.block (slots_in c.args.game.now c.args.coin) in
    let lent = c.as_slice-challenges.result.now in
    let same = c.as_slice-challenges.ensures in
    let first = sym c.in-Some.ensures in
    let released = share-released_open c.args.unpaid stood slot c.in-Some.challenger lent c.finish-slot.ensures.slot
    same first in
    let who = c.in-Some.challenger in
    held_is_of_known c.args.ledger.now who
    (omega (arith, released who, share-first_open who lent first, c.requires.held who))

pub pay_held-requires-clause-held : goal.pay_held-requires-clause-held
pay_held-requires-clause-held c =
    let slot = c.finish-slot.result in
    let stood = slot_at c.args.block (slots_in c.args.game.now c.args.coin) in
    let lent = c.as_slice-challenges.result.now in
    let same = c.as_slice-challenges.ensures in
    let first = sym c.in-Some.ensures in
    let released = share-released_open c.args.unpaid stood slot c.in-Some.challenger lent c.finish-slot.ensures.slot
    same first in
    let owner = slot.owner.account in
    omega (arith, released owner, amount-own owner EXIT_BOND, c.requires.held owner)

pub give_back_open-requires : goal.give_back_open-requires
give_back_open-requires c = λ a.
    let slot = c.finish-slot.result in
    let stood = slot_at c.args.block (slots_in c.args.game.now c.args.coin) in
    let lent = c.as_slice-challenges.result.now in
    let same = c.as_slice-challenges.ensures in
    let first = sym c.in-Some.ensures in
    let released = share-released_open c.args.unpaid stood slot c.in-Some.challenger lent c.finish-slot.ensures.slot
    same first in
    omega (arith, released a, c.pay_held.ensures.helds a, c.requires.held a)

pub returns-in-Some-clause-sums : goal.returns-in-Some-clause-sums
returns-in-Some-clause-sums c =
    let slot = c.finish-slot.result in
    let stood = slot_at c.args.block (slots_in c.args.game.now c.args.coin) in
    let lent = c.as_slice-challenges.result.now in
    let same = c.as_slice-challenges.ensures in
    let first = sym c.in-Some.ensures in
    let released = share-released_open c.args.unpaid stood slot c.in-Some.challenger lent c.finish-slot.ensures.slot
    same first in
    let paid = share-paid_open c.args.unpaid stood slot c.in-Some.challenger lent c.finish-slot.ensures.slot
    same first in
    let moved = c.pay_held.ensures in
    let given = c.give_back_open.ensures in record {
      balances = λ a. omega (arith, paid a, moved.balances a, given.balances a);
      helds = λ a. omega (arith, released a, moved.helds a, given.helds a);
      known = λ a. given.known a ∙ moved.known a;
      funds = given.funds ∙ moved.funds;
    }

-- ---- where none is

pub give_back-requires-clause-known : goal.give_back-requires-clause-known
give_back-requires-clause-known c =
    let slot = c.finish-slot.result in
    let stood = slot_at c.args.block (slots_in c.args.game.now c.args.coin) in
    let lent = c.as_slice-challenges.result.now in
    let same = c.as_slice-challenges.ensures in
    let none = sym c.in-None.ensures in
    let released = share-released c.args.unpaid stood slot lent c.finish-slot.ensures.slot same none in
    let owner = slot.owner.account in
    held_is_of_known c.args.ledger.now owner
    (omega (arith, released owner, amount-own owner EXIT_BOND, c.requires.held owner))

pub give_back-requires-clause-held : goal.give_back-requires-clause-held
give_back-requires-clause-held c =
    let slot = c.finish-slot.result in
    let stood = slot_at c.args.block (slots_in c.args.game.now c.args.coin) in
    let lent = c.as_slice-challenges.result.now in
    let same = c.as_slice-challenges.ensures in
    let none = sym c.in-None.ensures in
    let released = share-released c.args.unpaid stood slot lent c.finish-slot.ensures.slot same none in
    let owner = slot.owner.account in
    omega (arith, released owner, amount-own owner EXIT_BOND, c.requires.held owner)

pub pay_coin-requires-clause-held : goal.pay_coin-requires-clause-held
pay_coin-requires-clause-held c = λ a.
    let slot = c.finish-slot.result in
    let stood = slot_at c.args.block (slots_in c.args.game.now c.args.coin) in
    let lent = c.as_slice-challenges.result.now in
    let same = c.as_slice-challenges.ensures in
    let none = sym c.in-None.ensures in
    let released = share-released c.args.unpaid stood slot lent c.finish-slot.ensures.slot same none in
    omega (arith, released a, c.give_back.ensures.helds a, c.requires.held a)

pub returns-clause-sums : goal.returns-clause-sums
returns-clause-sums c =
    let slot = c.finish-slot.result in
    let stood = slot_at c.args.block (slots_in c.args.game.now c.args.coin) in
    let lent = c.as_slice-challenges.result.now in
    let same = c.as_slice-challenges.ensures in
    let none = sym c.in-None.ensures in
    let released = share-released c.args.unpaid stood slot lent c.finish-slot.ensures.slot same none in
    let paid = share-paid c.args.unpaid stood slot lent c.finish-slot.ensures.slot same none in
    let given = c.give_back.ensures in
    let moved = c.pay_coin.ensures in record {
      balances = λ a. omega (arith, paid a, given.balances a, moved.balances a);
      helds = λ a. omega (arith, released a, given.helds a, moved.helds a);
      known = λ a. moved.known a ∙ given.known a;
      funds = moved.funds ∙ given.funds;
    }
