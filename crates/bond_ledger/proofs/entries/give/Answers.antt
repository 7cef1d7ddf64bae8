use Rattle.std.proofs.Common.{rules, ◌≡◌, ◌∙◌, ◌+◌, ℕ, ap, unwrap_or, arith}
use Rattle.std.specs.Ordering.{nat_cmp}
use Rattle.std.specs.BTreeMap.{BTreeMap, insert_entry}
use Rattle.bond_ledger.specs.declared.entries.Sums.{Sums}
use Rattle.bond_ledger.specs.Entries.{no_sums, money_of}
use Rattle.bond_ledger.proofs.Money.{money-more, money-le}
use Rattle.bond_ledger.proofs.entries.give.Goals as goal

pub overflow_add-entries : goal.overflow_add-entries
overflow_add-entries c =
    let is = c.or_insert.ensures.value ∙ ap (λ o. unwrap_or o no_sums) c.in-Ok.ensures.value in
    omega (arith, ap money_of is, money-le c.args.entries.now c.args.account, c.requires.fits)

pub returns-in-Ok-clause-money : goal.returns-in-Ok-clause-money
returns-in-Ok-clause-money c =
    let is = c.or_insert.ensures.value ∙ ap (λ o. unwrap_or o no_sums) c.in-Ok.ensures.value in
    let sums : Sums =
    record { balance = c.or_insert.result.now.balance + c.args.amount; held = c.or_insert.result.now.held } in
    let more = λ (new : BTreeMap ℕ Sums)
    (inserted : new.entries ≡ insert_entry nat_cmp c.args.entries.now.entries c.args.account sums).
    money-more c.args.entries.now new c.args.account c.args.amount sums c.in-Ok.ensures.ordered inserted
    (omega (arith, ap money_of is)) in
    search (more, c.in-Ok.ensures.update.1, rules)
