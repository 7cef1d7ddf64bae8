use Rattle.std.proofs.Common.{◌≡◌, take}
use Rattle.node_rules.specs.WalletRecords.{leaves_in}
use Rattle.wallet_node.proofs.reading.read_bodies.Given as goal

abbrev pub invariant-loop-q : goal.invariant-loop-q
invariant-loop-q g l = l.bodies.items ≡ take l.q (leaves_in l.leaves.notes.records)
