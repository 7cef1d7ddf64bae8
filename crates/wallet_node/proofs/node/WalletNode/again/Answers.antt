use Rattle.std.proofs.Common.{sym, ◌∙◌}
use Rattle.wallet_node.proofs.Spends.{last-within}
use Rattle.wallet_node.proofs.node.WalletNode.again.Goals as goal

pub signed_again-requires : goal.signed_again-requires
signed_again-requires g c =
    last-within c.args.self.now.records.leaves c.args.coin c.in-Some.q (sym c.last_leaf.ensures ∙ c.in-Some.is)
