use Rattle.std.proofs.Common.{◌≡◌, List, ◌++◌, sym, ◌∙◌, ap, append-nil}
use Rattle.plasma_tx.specs.declared.call.RootCall.{RootCall}
use Rattle.plasma_tx.specs.declared.links.Link.{Link}
use Rattle.watch_duty.specs.Duty.{due_of, guard_of}
use Rattle.node_rules.specs.declared.identity.WalletIdentity.{WalletIdentity}
use Rattle.node_rules.specs.Wallet.{who}
use Rattle.wallet_node.specs.State.{WalletState}
use Rattle.wallet_node.proofs.Spends.{due-is, due-gone}
use Rattle.wallet_node.proofs.node.WalletNode.push_at.Goals as goal

pub returns-in_default : goal.returns-in_default
returns-in_default g c =
    sym (append-nil c.args.calls.now.items)
    ∙ ap (λ (due : List RootCall). c.args.calls.now.items ++ due)
    (sym (due-gone (g.H.Hash32.digest_of c.args.self.now.hash) c.args.self.now.records c.args.log.now.log c.args.coin
    c.args.tip (sym c.coin.ensures ∙ c.in_default.is)))

pub returns : goal.returns
returns g c =
    let dig = g.H.Hash32.digest_of c.args.self.now.hash in
    let records = c.args.self.now.records in
    let log = c.args.log.now.log in
    let deposit = c.in-Some.made.deposit in
    let same : c.self.inside.who ≡ who records =
    c.self.invariant.0.is_who ∙ ap (λ (s : WalletState _ _). who s.records) c.self.view_is in
    c.in_ok-push_due.ensures.ok
    ∙ ap (λ (due : List RootCall). c.args.calls.now.items ++ due)
    (ap (λ (w : WalletIdentity). due_of log w.account (guard_of c.args.coin deposit c.spends_at-spends.result.now)) same
    ∙ ap (λ (spends : List Link). due_of log (who records).account (guard_of c.args.coin deposit spends))
    c.spends_at-spends.ensures
    ∙ sym (due-is dig records log c.args.coin c.args.tip c.in-Some.made (sym c.coin.ensures ∙ c.in-Some.is)))
