use Rattle.world_nodes.proofs.Words.{◌≡◌, Some, None, cond, sym, ◌∙◌, subst, is_wallet_role, owner_of_node, NodeView}
use Rattle.world_nodes.proofs.Members.{wallet_owner}
use Rattle.world_nodes.proofs.entry.Entry.owner.Goals as goal

pub returns-in-Wallet : goal.returns-in-Wallet
returns-in-Wallet g c =
    let e = c.self.inside in
    subst (λ (v : NodeView _). Some c.in-Wallet.owner ≡ cond (is_wallet_role v.node.role) (Some (owner_of_node
    v.node)) None)
    c.self.view_is
    (wallet_owner e.hash e.name e.account e.member e.site e.offers.items c.in-Wallet.who c.in-Wallet.owner
    (sym c.get.ensures ∙ c.in-Wallet.is) c.self.invariant.0)
