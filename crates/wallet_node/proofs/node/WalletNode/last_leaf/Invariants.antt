use Rattle.std.proofs.Common.{◌≡◌, find}
use Rattle.std.specs.Prelude.{reverse}
use Rattle.std.specs.List.{range_with_len}
use Rattle.node_rules.specs.WalletRecords.{leaves_in}
use Rattle.node_rules.specs.Wallet.{names_coin, last_leaf}
use Rattle.wallet_node.proofs.node.WalletNode.last_leaf.Given as goal

abbrev pub invariant-loop-q : goal.invariant-loop-q
invariant-loop-q g l =
    last_leaf (leaves_in l.self.records.leaves) l.coin
    ≡ find (names_coin (leaves_in l.self.records.leaves) l.coin) (reverse (range_with_len 0 l.q))

abbrev pub decreases-loop-q : goal.decreases-loop-q
decreases-loop-q g l = l.q
