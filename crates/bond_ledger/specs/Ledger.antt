-- A ledger by account, and what its calls change.
use Rattle.std.specs.Prelude.{◌≡◌, ℕ, ◌==◌, Bool, if◌then◌else◌}
use Rattle.bond_ledger.specs.declared.ledger.Ledger.{Ledger}
use Rattle.bond_ledger.specs.Entries.{sums_in, is_known_in}

-- what an account may spend, and what is held of it: 0 of an account that isn't known
abbrev pub balance_in : Ledger → ℕ → ℕ
balance_in ledger account = (sums_in ledger.entries account).balance

abbrev pub held_in : Ledger → ℕ → ℕ
held_in ledger account = (sums_in ledger.entries account).held

-- whether the account is known
abbrev pub is_known : Ledger → ℕ → Bool
is_known ledger account = is_known_in ledger.entries account

-- all money ever funded
abbrev pub funded_in : Ledger → ℕ
funded_in ledger = ledger.funded

-- the amount at this one account, and 0 at each other
abbrev pub amount_at : ℕ → ℕ → ℕ → ℕ
amount_at account amount a = if account == a then amount else 0

-- Each account has its new balance and its new held sum, the same accounts are known, and so much was funded. The sums are
-- functions of the account.
pub record HasSums (old new : Ledger) (balance held : ℕ → ℕ) (funded : ℕ) : Type 0 where
  pub balances : (account : ℕ) → balance_in new account ≡ balance account
  pub helds : (account : ℕ) → held_in new account ≡ held account
  pub known : (account : ℕ) → is_known new account ≡ is_known old account
  pub funds : funded_in new ≡ funded

-- nothing changed
abbrev pub IsSame : Ledger → Ledger → Type 0
IsSame old new = HasSums old new (balance_in old) (held_in old) (funded_in old)
