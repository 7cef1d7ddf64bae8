use Rattle.std.proofs.Common.{sym, ◌∙◌}
use Rattle.wallet_node.proofs.States.{made-held, made-leaving}
use Rattle.wallet_node.proofs.node.WalletNode.leave.Goals as goal

pub leave_held-requires-clause-made : goal.leave_held-requires-clause-made
leave_held-requires-clause-made g c =
    made-held (g.H.Hash32.digest_of c.args.self.now.hash) c.args.self.now.records c.args.log.now.log c.args.coin
    c.in-Held.tip (sym c.state.ensures ∙ c.in-Held.is)

pub exit_start-requires : goal.exit_start-requires
exit_start-requires g c =
    made-leaving (g.H.Hash32.digest_of c.args.self.now.hash) c.args.self.now.records c.args.log.now.log c.args.coin
    c.in-Leaving.tip (sym c.state.ensures ∙ c.in-Leaving.is)
