use Rattle.std.proofs.Common.{rules, ◌≡◌, ◌∙◌, ℕ, ap, unwrap_or, arith}
use Rattle.std.specs.Ordering.{nat_cmp}
use Rattle.std.specs.BTreeMap.{BTreeMap, insert_entry}
use Rattle.bond_ledger.specs.declared.entries.Sums.{Sums}
use Rattle.bond_ledger.specs.Entries.{no_sums, money_of}
use Rattle.bond_ledger.proofs.Money.{money-more}
use Rattle.bond_ledger.proofs.entries.know.Goals as goal

pub returns-clause-money : goal.returns-clause-money
returns-clause-money c =
    let is = c.or_insert.ensures.value ∙ ap (λ o. unwrap_or o no_sums) c.in_ok-entries.ensures.value in
    let more = λ (new : BTreeMap ℕ Sums) (inserted : new.entries
    ≡ insert_entry nat_cmp c.args.entries.now.entries c.args.account c.or_insert.result.now).
    money-more c.args.entries.now new c.args.account 0 c.or_insert.result.now c.in_ok-entries.ensures.ordered inserted
    (omega (arith, ap money_of is)) in
    search (more, c.in_ok-entries.ensures.update.1, rules)
