use Rattle.std.proofs.Common.{◌∙◌}
use Rattle.wallet_node.proofs.Spends.{spends-in-memory}
use Rattle.wallet_node.proofs.node.WalletNode.spends_at.Goals as goal

pub returns : goal.returns
returns g c =
    rw (← c.self.view_is)
    (c.spends_at.ensures
    ∙ spends-in-memory (g.H.Hash32.digest_of c.self.inside.hash)
    (record { notes = c.self.inside.notes.notes.records; leaves = c.self.inside.leaves.notes.records }) c.args.coin c.args.tip
    c.self.inside.memory c.self.invariant.0.is_memory)
