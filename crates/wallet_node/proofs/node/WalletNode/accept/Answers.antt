use Rattle.std.proofs.Common.{◌≡◌, true, Err, inl, inr, sym, ap, subst}
use Rattle.std.specs.Prelude.{is_ok}
use Rattle.node_rules.specs.declared.identity.WalletIdentity.{WalletIdentity}
use Rattle.node_rules.specs.Kept.{links_handed}
use Rattle.node_rules.specs.Wallet.{who}
use Rattle.wallet_node.specs.State.{WalletState}
use Rattle.wallet_node.proofs.node.WalletNode.accept.Goals as goal

pub returns-in-Ok-clause-memory : goal.returns-in-Ok-clause-memory
returns-in-Ok-clause-memory g c = λ none.
    let inside = c.self.inside in
    let log = c.args.log.now.log in
    let bytes = c.args.bundle.now in
    inr
    (subst (λ (s : WalletState _ _). is_ok (links_handed (g.H.Hash32.digest_of s.hash) (who s.records).tag log bytes)
    ≡ true) c.self.view_is
    (subst (λ (w : WalletIdentity). is_ok (links_handed (g.H.Hash32.digest_of inside.hash) w.tag log bytes) ≡ true)
    c.self.invariant.0.is_who (ap (λ r. is_ok r) (sym (c.in-Ok.ensures.value (λ wrong. cc wrong))))))

pub returns-in-Err-clause-memory : goal.returns-in-Err-clause-memory
returns-in-Err-clause-memory g c = λ none.
    inl (c.in-Err.ensures.memory (ap Err (c.history_refusal.ensures.memory (cc none))))
