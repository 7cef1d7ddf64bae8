-- Each order of a node keeps what events say of it, and makes bytes.
use Rattle.world_rules.proofs.Basics.{◌≡◌, ℕ, List, [], Option, Some, None, Ok, sym, subst, Bool, true, arith, Result, IfSome, slice_get, unwrap_or, common_steps}
use Rattle.world_rules.proofs.CoinWords.{Owner, RootCall, body_text}
use Rattle.world_rules.proofs.NodeWords.{messages_of, Sent, WalletRefusal, secret_of, leaves_in, WalletRecords, WalletEffect, who, used, accept_effect, send_effect, last_leaf, again_by, again_answer, leave_effect, reclaim_effect, migrate_effect, sent_body, guard_effect, release_effect, wallet_cause, watcher_cause, offer_cause, lay_cause, seal_cause, prove_cause, Response, without_record, answered, on_accepted, on_sent, on_leaving, on_reclaimed, on_migrated, again_does, wallet_does, on_guarded, on_released, watcher_does, on_pooled, on_laid, on_sealed, on_bundled, on_proved, operator_does, NodeOrder, WalletOrder, WatcherOrder, OperatorOrder, Small, small-nil, small-append, small-signature, small-body, SendEnds, Refused, Sends, send_ends}
use Rattle.world_rules.proofs.OperatorWords.{offer_effect, lay_effect, seal_effect, prove_answer, bundle_answer, absences_answer}
use Rattle.world_rules.proofs.WorldWords.{Node, World, wallet_of, is_wallet_role, is_watcher_role, is_operator_role, Deed, as_deed, on_open, node_does, event_of, IsDigest}
use Rattle.world_rules.proofs.OrderEnds.{IsOrderAt, each-answer}
use Rattle.world_rules.proofs.OperatorItems.{AreSmallRecords, prove-small, bundle-made, absences-made, offer-noted, lay-noted, seal-noted}
use Rattle.world_rules.proofs.Said.{Said, told}
use Rattle.world_rules.proofs.WalletAccepts.{accepts-kept}
use Rattle.world_rules.proofs.WalletSends.{sends-kept}
use Rattle.world_rules.proofs.WalletNotes.{reclaims-kept, leaves-kept, migrates-kept}
use Rattle.world_rules.proofs.KeptWatcher.{guards-kept, releases-kept}
use Rattle.world_rules.proofs.KeptNode.{KeptNode, Feeds, item-small, IsFitOrder, IsKeptDeed, records-noted, of-wallet, by-effect, of-watcher, of-operator}

-- what is made is bytes, where each answer gives bytes
made-small : {A E : Type 0} (cause : E → List ℕ) (give : A → Response) (result : Result A E)
    → ((answer : A) → result ≡ Ok answer → Small (give answer).made) → Small (answered cause give result).made
made-small cause give result each = each-answer (λ r. Small r.made) cause give result each (λ why. small-nil)

module _ (dig : List ℕ → List ℕ) (is_digest : IsDigest dig) (s : Said) (world : World) (feeds : Feeds world) (n : ℕ)
    (node : Node) (kept : KeptNode dig s world.chain.log node) where
  abbrev log : List RootCall
  log = world.chain.log

  abbrev IsKept : Deed → Type 0
  IsKept deed = IsKeptDeed dig s log node deed

  abbrev deed_by : NodeOrder → Deed
  deed_by order = as_deed n order (node_does dig log node order)

  -- ---- wallets

  module _ (role : is_wallet_role node.role ≡ true) where
    abbrev wallet : WalletRecords
    wallet = wallet_of node

    sent-made : (coin : ℕ) (to : Owner) (last : Option ℕ) → Small to.key
        → Small (answered wallet_cause on_sent (send_effect dig wallet log coin to last).answer).made
    sent-made coin to last key = by (send_ends dig wallet log coin to last)
      where
        IsMade : WalletEffect (Result Sent WalletRefusal) → Type 0
        IsMade effect = Small (answered wallet_cause on_sent effect.answer).made

        by : SendEnds dig wallet log coin to last (send_effect dig wallet log coin to last)
            → IsMade (send_effect dig wallet log coin to last)
        by (Refused why is) = subst IsMade (sym is) small-nil
        by (Sends tip held is) =
            let body = sent_body wallet coin tip to last in
            subst IsMade (sym is)
            (small-append (small-body body (kept.wallet role).tag key)
            (small-signature (secret_of (who wallet)) (used wallet) (body_text body)))

    again-made : (coin : ℕ) → Small (again_does wallet coin).response.made
    unfolding again_answer
    again-made coin = by (last_leaf (leaves_in wallet.leaves) coin)
      where
        by : (q : Option ℕ) → Small (answered wallet_cause on_sent (again_by wallet q)).made
        by None = small-nil
        by (Some q) =
            small-append (item-small (messages_of wallet.leaves) q (kept.wallet role).messages)
            (small-signature (secret_of (who wallet)) q (unwrap_or (slice_get (messages_of wallet.leaves) q) []))

    wallet-kept : (order : WalletOrder) → IsFitOrder (NodeOrder.Wallet order)
        → IsKept (deed_by (NodeOrder.Wallet order))
    unfolding wallet_does event_of
    wallet-kept (WalletOrder.Accept bytes) fit =
        let effect = accept_effect dig wallet log bytes in
        by-effect dig s log node role n (WalletOrder.Accept bytes) on_accepted effect
        (accepts-kept dig s log wallet (kept.wallet role) bytes fit n)
        (made-small wallet_cause on_accepted effect.answer (λ taken is. small-nil))
    wallet-kept (WalletOrder.Send coin to last) fit =
        by-effect dig s log node role n (WalletOrder.Send coin to last) on_sent
        (send_effect dig wallet log coin to last)
        (sends-kept dig s log wallet (kept.wallet role) feeds.few coin to last fit.0 fit.1.is fit.1.key fit.2 n)
        (sent-made coin to last fit.1.key)
    wallet-kept (WalletOrder.Again coin) fit =
        of-wallet dig s log node role (deed_by (NodeOrder.Wallet (WalletOrder.Again coin)))
        (grind (arith, common_steps, each-answer, told))
        (again-made coin)
    wallet-kept (WalletOrder.Leave coin) fit =
        let effect = leave_effect dig wallet log coin in
        by-effect dig s log node role n (WalletOrder.Leave coin) on_leaving effect
        (leaves-kept dig s log wallet (kept.wallet role) feeds.few n coin fit)
        (made-small wallet_cause on_leaving effect.answer (λ call is. small-nil))
    wallet-kept (WalletOrder.Reclaim bytes) fit =
        let effect = reclaim_effect dig wallet log bytes in
        by-effect dig s log node role n (WalletOrder.Reclaim bytes) on_reclaimed effect
        (reclaims-kept dig s log wallet (kept.wallet role) feeds.few n bytes fit)
        (made-small wallet_cause on_reclaimed effect.answer (λ taken is. small-nil))
    wallet-kept WalletOrder.Migrate fit =
        let effect = migrate_effect wallet in
        by-effect dig s log node role n WalletOrder.Migrate on_migrated effect
        (migrates-kept dig s log wallet (kept.wallet role) feeds.few n)
        (made-small wallet_cause on_migrated effect.answer (λ done is. small-nil))
    wallet-kept WalletOrder.Watch fit =
        of-wallet dig s log node role (deed_by (NodeOrder.Wallet WalletOrder.Watch)) (kept.wallet role) small-nil

  -- ---- watchers

  watcher-kept : is_watcher_role node.role ≡ true → (order : WatcherOrder) → IsFitOrder (NodeOrder.Watcher order)
      → IsKept (deed_by (NodeOrder.Watcher order))
  unfolding watcher_does event_of
  watcher-kept role (WatcherOrder.Guard bytes) fit =
      of-watcher dig s log node role (deed_by (NodeOrder.Watcher (WatcherOrder.Guard bytes)))
      (guards-kept dig s log node.notes (kept.watcher role) n bytes fit)
      (made-small watcher_cause on_guarded (guard_effect dig node.notes log bytes).answer (λ taken is. small-nil))
  watcher-kept role (WatcherOrder.Release coin tip) fit =
      of-watcher dig s log node role (deed_by (NodeOrder.Watcher (WatcherOrder.Release coin tip)))
      (releases-kept dig s log node.notes (kept.watcher role) n coin tip fit.0 fit.1)
      (made-small watcher_cause on_released (release_effect dig node.notes coin tip).answer (λ done is. small-nil))
  watcher-kept role WatcherOrder.Watch fit =
      of-watcher dig s log node role (deed_by (NodeOrder.Watcher WatcherOrder.Watch)) (kept.watcher role) small-nil

  -- ---- the operator

  module _ (role : is_operator_role node.role ≡ true) where
    small : AreSmallRecords node.notes
    small = kept.operator role

    noted : (order : OperatorOrder) → IfSome (operator_does dig log node.notes order).note Small
        → Small (operator_does dig log node.notes order).response.made → IsKept (deed_by (NodeOrder.Operator order))
    noted order note made = grind (arith, common_steps, of-operator, records-noted, small)

    operator-kept : (order : OperatorOrder) → IsFitOrder (NodeOrder.Operator order)
        → IsKept (deed_by (NodeOrder.Operator order))
    unfolding operator_does
    operator-kept (OperatorOrder.Offer bytes) fit =
        noted (OperatorOrder.Offer bytes) (offer-noted dig node.notes log bytes fit)
        (made-small offer_cause on_pooled (offer_effect dig node.notes log bytes).answer (λ coin is. small-nil))
    operator-kept (OperatorOrder.Lay coin leaf) fit =
        noted (OperatorOrder.Lay coin leaf) (lay-noted coin leaf fit)
        (made-small lay_cause (on_laid coin) (lay_effect coin leaf).answer (λ done is. small-nil))
    operator-kept OperatorOrder.Seal fit =
        noted OperatorOrder.Seal (seal-noted dig node.notes)
        (made-small seal_cause on_sealed (seal_effect dig node.notes).answer (λ sealed is. small-nil))
    operator-kept (OperatorOrder.Bundle coin tip) fit =
        noted (OperatorOrder.Bundle coin tip) tt
        (made-small prove_cause on_bundled (bundle_answer dig node.notes log coin tip)
        (bundle-made dig is_digest node.notes small log coin tip))
    operator-kept (OperatorOrder.Prove coin block) fit =
        noted (OperatorOrder.Prove coin block) tt
        (made-small prove_cause on_proved (prove_answer dig node.notes log coin block)
        (prove-small dig is_digest node.notes small log coin block))
    operator-kept (OperatorOrder.Absences coin after last) fit =
        noted (OperatorOrder.Absences coin after last) tt
        (made-small prove_cause on_bundled (absences_answer dig node.notes log coin after last)
        (absences-made dig is_digest node.notes small log coin after last))

  -- ---- each order

  opened-kept : (b : Bool) → IsKept (as_deed n NodeOrder.Open (without_record (on_open node b)))
  unfolding event_of
  opened-kept b = grind (arith, common_steps, small-nil)

  pub order-kept : (order : NodeOrder) → IsOrderAt node.role order → IsFitOrder order → IsKept (deed_by order)
  order-kept (NodeOrder.Wallet order) role fit = wallet-kept role order fit
  order-kept (NodeOrder.Watcher order) role fit = watcher-kept role order fit
  order-kept (NodeOrder.Operator order) role fit = operator-kept role order fit
  order-kept NodeOrder.Open role fit = opened-kept node.is_up
