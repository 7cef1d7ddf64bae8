use Rattle.world_nodes.proofs.Words.{◌≡◌, Some, None, cond, sym, ◌∙◌, subst, who_is, is_wallet_role, NodeView}
use Rattle.world_nodes.proofs.Members.{wallet_seed}
use Rattle.world_nodes.proofs.entry.Entry.seed.Goals as goal

pub returns-in-Wallet : goal.returns-in-Wallet
returns-in-Wallet g c =
    let e = c.self.inside in
    subst (λ (v : NodeView _). Some c.in-Wallet.who.seed ≡ cond (is_wallet_role v.node.role) (Some (who_is
    v.node.notes).seed) None)
    c.self.view_is
    (wallet_seed e.hash e.name e.account e.member e.site e.offers.items c.in-Wallet.who c.in-Wallet.owner
    (sym c.get.ensures ∙ c.in-Wallet.is) c.self.invariant.0)
