use Rattle.std.proofs.Common.{sym, ◌∙◌}
use Rattle.wallet_node.proofs.States.{sending-spends}
use Rattle.wallet_node.proofs.node.WalletNode.reclaim.Goals as goal

pub reclaim_leaf-requires-clause-spends : goal.reclaim_leaf-requires-clause-spends
reclaim_leaf-requires-clause-spends g c =
    sending-spends (g.H.Hash32.digest_of c.args.self.now.hash) c.args.self.now.records c.args.log.now.log
    c.in-Ok.bundle.coin c.in-Sending.tip c.in-Sending.q (sym c.state.ensures ∙ c.in-Sending.is)
