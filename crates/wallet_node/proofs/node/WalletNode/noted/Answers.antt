use Rattle.std.proofs.Common.{◌∙◌, ap}
use Rattle.node_rules.specs.Wallet.{noted}
use Rattle.wallet_node.specs.State.{WalletState}
use Rattle.wallet_node.specs.Inside.{MemoryState}
use Rattle.wallet_node.proofs.node.WalletNode.noted.Goals as goal

pub returns : goal.returns
returns g c =
    c.noted.ensures ∙ ap (λ (m : MemoryState). m.noted) c.self.invariant.0.is_memory
    ∙ ap (λ (s : WalletState _ _). noted (g.H.Hash32.digest_of s.hash) s.records) c.self.view_is
