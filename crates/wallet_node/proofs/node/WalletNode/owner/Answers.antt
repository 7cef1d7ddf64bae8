use Rattle.std.proofs.Common.{◌∙◌, ap}
use Rattle.node_rules.specs.WalletRecords.{owner_of}
use Rattle.node_rules.specs.Wallet.{who}
use Rattle.wallet_node.specs.State.{WalletState}
use Rattle.wallet_node.specs.Inside.{MemoryState}
use Rattle.wallet_node.proofs.InMemory.{memory-me}
use Rattle.wallet_node.proofs.node.WalletNode.owner.Goals as goal

pub returns : goal.returns
returns g c =
    let inside = c.self.inside in
    ap (λ n. n.me) c.noted.ensures ∙ ap (λ (m : MemoryState). m.noted.me) c.self.invariant.0.is_memory
    ∙ memory-me (g.H.Hash32.digest_of inside.hash) inside.notes.notes.records
    ∙ ap (λ (s : WalletState _ _). owner_of (who s.records)) c.self.view_is
