use Rattle.std.proofs.Common.{◌≡◌, ◌++◌}
use Rattle.std.specs.List.{flat_map}
use Rattle.wallet_node.specs.Inside.{due_of_coin}
use Rattle.wallet_node.proofs.node.WalletNode.due_for.Given as goal

abbrev pub invariant-loop-coin : goal.invariant-loop-coin
invariant-loop-coin g l =
    let due = due_of_coin (g.H.Hash32.digest_of l.self.hash) l.self.records l.log.log in
    l.calls.items ++ flat_map due l.coin-iterator ≡ flat_map due l.coins.keys
