-- The operator's records as values of the code.
use Rattle.std.specs.Prelude.{ℕ, List, Option, Some, None, if◌then◌else◌}
use Rattle.operator_rules.specs.Records.{Identity, Note, Offered, Laid, Sealed, spells_transfer}
use Rattle.operator_rules.specs.Trees.{Forest, after_note, coin_named}
use Rattle.sparse_merkle.specs.TreeDigest.{with_leaf}
use Rattle.operator_core.specs.declared.records.Who.{Who}
use Rattle.operator_core.specs.declared.records.Change.{Change}
use Rattle.operator_core.specs.declared.records.Change.TheVariants.{Put, Seal}

-- the identity that the code's value stands for
abbrev pub identity_of_who : Who → Identity
identity_of_who who = record { tag = who.tag; account = who.account; key_seed = who.key_seed }

-- the coin of the transfer that bytes spell
abbrev pub offered_coin : List ℕ → List ℕ → Option ℕ
offered_coin tag bytes = if spells_transfer tag bytes then Some (coin_named bytes) else None

-- the coin and the leaf that a note puts into the pool; none for a seal
abbrev pub put_of : Note → Option (ℕ × List ℕ)
put_of (Offered bytes) = Some (coin_named bytes, bytes)
put_of (Laid coin bytes) = Some (coin, bytes)
put_of Sealed = None

-- the same of the code's value
abbrev pub put_of_change : Change → Option (ℕ × List ℕ)
put_of_change (Put coin leaf) = Some (coin, leaf.now)
put_of_change Seal = None

-- the forest after such a put, or after a seal
abbrev pub with_put : Option (ℕ × List ℕ) → Forest → Forest
with_put (Some put) forest = record forest { pool = with_leaf forest.pool put.0 put.1 }
with_put None forest = after_note Sealed forest

-- and after a note, if there is one
abbrev pub changed : Option (Option (ℕ × List ℕ)) → Forest → Forest
changed None forest = forest
changed (Some put) forest = with_put put forest
