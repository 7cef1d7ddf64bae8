-- What holds of every ledger.
use Rattle.std.specs.Prelude.{ℕ, ◌<◌, IsTrue}
use Rattle.bond_ledger.specs.declared.ledger.Ledger.{Ledger}
use Rattle.bond_ledger.specs.Ledger.{held_in, is_known}

-- an account of which money is held is known
abbrev pub HeldIsOfKnown : Type 0
HeldIsOfKnown = (ledger : Ledger) (account : ℕ) → 0 < held_in ledger account → IsTrue (is_known ledger account)
