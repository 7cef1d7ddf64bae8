use Rattle.std.proofs.Common.{◌≡◌, List, Ok, sym, ◌∙◌, ap}
use Rattle.plasma_tx.specs.declared.links.Link.{Link}
use Rattle.node_rules.specs.declared.identity.WalletIdentity.{WalletIdentity}
use Rattle.node_rules.specs.Wallet.{who, start_of}
use Rattle.wallet_node.specs.State.{WalletState}
use Rattle.wallet_node.specs.Inside.{links_behind}
use Rattle.wallet_node.proofs.Spends.{start-is}
use Rattle.wallet_node.proofs.node.WalletNode.exit_start.Goals as goal

pub returns-in-Ok-clause-answer : goal.returns-in-Ok-clause-answer
returns-in-Ok-clause-answer g c none =
    let dig = g.H.Hash32.digest_of c.args.self.now.hash in
    let records = c.args.self.now.records in
    let deposit = c.in-Some.made.deposit in
    let same : c.self.inside.who ≡ who records =
    c.self.invariant.0.is_who ∙ ap (λ (s : WalletState _ _). who s.records) c.self.view_is in
    ap Ok
    (c.in-Ok.ensures
    ∙ ap (λ (w : WalletIdentity). start_of w.account c.args.tip
    (links_behind c.args.coin deposit c.spends_at-spends.result.now)) same
    ∙ ap (λ (spends : List Link). start_of (who records).account c.args.tip (links_behind c.args.coin deposit spends))
    c.spends_at-spends.ensures)
    ∙ sym (start-is dig records c.args.log.now.log c.args.coin c.args.tip c.in-Some.made
    (sym c.coin.ensures ∙ c.in-Some.is))
