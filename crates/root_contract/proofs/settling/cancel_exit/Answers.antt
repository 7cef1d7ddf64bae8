use Rattle.root_contract.proofs.Words.{refl, ◌∙◌, arith, slot_at, slots_in, EXIT_BOND, held_is_of_known}
use Rattle.root_contract.proofs.SettlingLemmas.{amount-own, share-bonds, share-cancel}
use Rattle.root_contract.proofs.settling.cancel_exit.Goals as goal

pub pay_held-requires-clause-from : goal.pay_held-requires-clause-from
pay_held-requires-clause-from c =
    let slot = c.after-slot.result in
    let owner = slot.owner.account in
    let stood = slot_at c.args.block (slots_in c.args.game.now c.args.coin) in
    held_is_of_known c.args.ledger.now owner
    (omega (
      arith,
      share-bonds stood slot slot.challenges c.after-slot.ensures.slot refl owner,
      amount-own owner EXIT_BOND,
      c.requires.held owner,
    ))

pub pay_held-requires-clause-held : goal.pay_held-requires-clause-held
pay_held-requires-clause-held c =
    let slot = c.after-slot.result in
    let owner = slot.owner.account in
    let stood = slot_at c.args.block (slots_in c.args.game.now c.args.coin) in
    omega (
      arith,
      share-bonds stood slot slot.challenges c.after-slot.ensures.slot refl owner,
      amount-own owner EXIT_BOND,
      c.requires.held owner,
    )

pub give_back_open-requires : goal.give_back_open-requires
give_back_open-requires c = λ a.
    let slot = c.after-slot.result in
    let stood = slot_at c.args.block (slots_in c.args.game.now c.args.coin) in
    let bonds = share-bonds stood slot c.as_slice.result.now c.after-slot.ensures.slot c.as_slice.ensures in
    omega (arith, bonds a, c.pay_held.ensures.helds a, c.requires.held a)

pub returns-clause-sums : goal.returns-clause-sums
returns-clause-sums c =
    let slot = c.after-slot.result in
    let stood = slot_at c.args.block (slots_in c.args.game.now c.args.coin) in
    let lent = c.as_slice.result.now in
    let bonds = share-bonds stood slot lent c.after-slot.ensures.slot c.as_slice.ensures in
    let paid = share-cancel c.args.challenger stood slot lent c.after-slot.ensures.slot c.as_slice.ensures in
    let first = c.pay_held.ensures in
    let then = c.give_back_open.ensures in record {
      balances = λ a. omega (arith, paid a, first.balances a, then.balances a);
      helds = λ a. omega (arith, bonds a, first.helds a, then.helds a);
      known = λ a. then.known a ∙ first.known a;
      funds = then.funds ∙ first.funds;
    }
