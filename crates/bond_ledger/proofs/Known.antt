-- The accounts of which money is held.
use Rattle.std.proofs.Common.{◌<◌, Option, Some, None, IsTrue, is_some, unwrap_or, refl, arith}
use Rattle.std.specs.Ordering.{nat_cmp}
use Rattle.std.specs.BTreeMap.{get}
use Rattle.bond_ledger.specs.declared.entries.Sums.{Sums}
use Rattle.bond_ledger.specs.Entries.{no_sums}
use Rattle.bond_ledger.specs.Laws.{HeldIsOfKnown}

-- what may be there is there where some is held
held-there : (o : Option Sums) → 0 < (unwrap_or o no_sums).held → IsTrue (is_some o)
held-there None held = absurd (omega arith)
held-there (Some sums) held = refl

pub held_is_of_known : HeldIsOfKnown
held_is_of_known ledger account held = held-there (get nat_cmp ledger.entries account) held
