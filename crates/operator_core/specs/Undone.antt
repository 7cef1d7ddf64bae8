-- A pool with its last put undone.
use Rattle.std.specs.Prelude.{List, Option, Some, None}
use Rattle.sparse_merkle.specs.declared.tree.Entry.{Entry}
use Rattle.sparse_merkle.specs.TreeDigest.{with_leaf}
use Rattle.operator_core.specs.declared.pool.Before.{Before}

-- the map with the leaf before put back, where there is one
abbrev pub put_back : Option Before → List Entry → List Entry
put_back None entries = entries
put_back (Some before) entries = with_leaf entries before.coin before.leaf
