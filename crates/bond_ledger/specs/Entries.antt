-- What a map from accounts has of each account.
use Rattle.std.specs.Prelude.{ℕ, ◌+◌, Bool, is_some, unwrap_or}
use Rattle.std.specs.Ordering.{nat_cmp}
use Rattle.std.specs.List.{sum_by}
use Rattle.std.specs.BTreeMap.{BTreeMap, get, values}
use Rattle.bond_ledger.specs.declared.entries.Sums.{Sums}

-- nothing
abbrev pub no_sums : Sums
no_sums = record { balance = 0; held = 0 }

-- what the account has; nothing where it isn't known
abbrev pub sums_in : BTreeMap ℕ Sums → ℕ → Sums
sums_in entries account = unwrap_or (get nat_cmp entries account) no_sums

-- whether the account is known
abbrev pub is_known_in : BTreeMap ℕ Sums → ℕ → Bool
is_known_in entries account = is_some (get nat_cmp entries account)

-- all that is an account's
abbrev pub money_of : Sums → ℕ
money_of sums = sums.balance + sums.held

-- all that the accounts have, held or not
abbrev pub money_in : BTreeMap ℕ Sums → ℕ
money_in entries = sum_by money_of (values entries)
