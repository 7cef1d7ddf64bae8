-- Sums over the accounts of a ledger.
use Rattle.std.proofs.Common.{◌≡◌, ◌≤◌, ℕ, ◌+◌, Option, Some, None, Result, Ok, Err, IsTrue, is_some, OnOk, OnErr, unwrap_or, refl, subst, arith, ap}
use Rattle.std.specs.Option.{option_map}
use Rattle.std.specs.Ordering.{nat_cmp}
use Rattle.std.specs.Map.{values_of, lookup}
use Rattle.std.specs.List.{sum_by}
use Rattle.std.specs.BTreeMap.{BTreeMap, IsOrdered, is_at, insert_entry}
use Rattle.std.proofs.lemmas.Cmp.{nat_cmp_total}
use Rattle.std.proofs.lemmas.Map.Entries.{sum_by-insert_entry, sum_by-remove_entry}
use Rattle.bond_ledger.specs.declared.entries.Sums.{Sums}
use Rattle.bond_ledger.specs.Entries.{no_sums, sums_in, money_of, money_in}

-- the money of what may be there
money-option : (o : Option Sums) → unwrap_or (option_map money_of o) 0 ≡ money_of (unwrap_or o no_sums)
money-option None = refl
money-option (Some sums) = refl

-- the money of all accounts, once one of them has other sums
pub money-insert : (old new : BTreeMap ℕ Sums) (account : ℕ) (sums : Sums) → IsOrdered nat_cmp old
    → new.entries ≡ insert_entry nat_cmp old.entries account sums
    → money_in new + money_of (sums_in old account) ≡ money_in old + money_of sums
money-insert old new account sums ordered inserted =
    let here : unwrap_or (option_map money_of (lookup (is_at (nat_cmp account)) old.entries)) 0
    ≡ money_of (sums_in old account) =
    money-option (lookup (is_at (nat_cmp account)) old.entries) in
    let whole : sum_by money_of (values_of new.entries)
    ≡ sum_by money_of (values_of (insert_entry nat_cmp old.entries account sums)) =
    ap (λ entries. sum_by money_of (values_of entries)) inserted in
    omega (arith, sum_by-insert_entry money_of nat_cmp_total old.entries account sums ordered, here, whole)

-- by what the account has more
pub money-more : (old new : BTreeMap ℕ Sums) (account more : ℕ) (sums : Sums) → IsOrdered nat_cmp old
    → new.entries ≡ insert_entry nat_cmp old.entries account sums
    → money_of sums ≡ money_of (sums_in old account) + more → money_in new ≡ money_in old + more
money-more old new account more sums ordered inserted is =
    omega (arith, money-insert old new account sums ordered inserted, is)

-- an account has no more than all
pub money-le : (entries : BTreeMap ℕ Sums) (account : ℕ) → money_of (sums_in entries account) ≤ money_in entries
money-le entries account =
    omega (
      arith,
      sum_by-remove_entry money_of (is_at (nat_cmp account)) entries.entries,
      money-option (lookup (is_at (nat_cmp account)) entries.entries),
    )

-- an insert at a key that is there needs no memory
pub known-ok : {A E : Type 0} {P : Type 0} (r : Result A E) (o : Option Sums) → OnErr r (o ≡ None) → IsTrue (is_some o)
    → OnOk r P → P
known-ok (Ok a) o absent known fact = fact
known-ok (Err e) o absent known fact =
    absurd (let h : IsTrue (is_some {T = Sums} None) =
    subst (λ (p : Option Sums). IsTrue (is_some p)) absent known in cc)
