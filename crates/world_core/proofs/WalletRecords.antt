-- A world whose wallets have a wallet's records keeps it behind each order of a node.
use Rattle.world_core.proofs.Words.{◌≡◌, ℕ, true, List, Option, Some, None, refl, sym, ◌∙◌, subst, Result, false≢true, RootCall, owner_of, Node, World, wallet_of, is_wallet_role, as_deed, with_records, Said, KeptWallet, HasFrame, few-in, frame-feeds, EachNode, IfThere, node-there}
use Rattle.node_rules.specs.declared.refusal.WalletRefusal.{WalletRefusal}
use Rattle.node_rules.specs.WalletCommandLaws.{with_more, after}
use Rattle.node_rules.specs.Wallet.{WalletRecords, WalletEffect, accept_effect, send_effect, leave_effect, reclaim_effect, migrate_effect}
use Rattle.node_replies.specs.declared.order.NodeOrder.{NodeOrder}
use Rattle.node_replies.specs.declared.order.WalletOrder.{WalletOrder}
use Rattle.node_replies.specs.Orders.{Response, Doing, wallet_doing, with_record, on_accepted, on_sent, on_leaving, on_reclaimed, on_migrated, wallet_does}
use Rattle.world_rules.specs.Orders.{node_does}
use Rattle.world_rules.proofs.OrderEnds.{IsOrderAt}
use Rattle.world_rules.proofs.KeptNode.{Feeds, IsFitOrder, wallet-alone}
use Rattle.world_rules.proofs.WalletAccepts.{accepts-kept}
use Rattle.world_rules.proofs.WalletSends.{sends-kept}
use Rattle.world_rules.proofs.WalletNotes.{reclaims-kept, leaves-kept, migrates-kept}

-- a node that is a wallet has a wallet's records, whatever is said of it
abbrev pub IsKept : (List ℕ → List ℕ) → List RootCall → ℕ → Node → Type 0
IsKept dig log n node = is_wallet_role node.role ≡ true → (s : Said) × KeptWallet dig s log (wallet_of node)

-- so is each wallet of a world
pub record KeepsWallets (dig : List ℕ → List ℕ) (world : World) : Type 0 where
  pub frame : HasFrame world
  pub nodes : EachNode (IfThere (IsKept dig world.chain.log)) world.nodes

module _ (dig : List ℕ → List ℕ) (world : World) (kept : KeepsWallets dig world) where
  -- what an order may take from the world
  pub feeds : Feeds world
  unfolding owner_of
  feeds =
      frame-feeds world kept.frame (λ n node at role.
      (node-there (IsKept dig world.chain.log) world.nodes kept.nodes n node at role).1.is_owner.account)

  -- records with what an order adds
  more-same : (records : List (List ℕ)) (added : Option (List ℕ)) → with_more added records ≡ with_record records added
  more-same records None = refl
  more-same records (Some body) = refl

  -- the records after an order are a wallet's
  abbrev IsKeptBy : WalletRecords → Doing → Type 0
  IsKeptBy wallet doing =
      (s : Said) × KeptWallet dig s world.chain.log
      (record { notes = with_record wallet.notes doing.note; leaves = with_record wallet.leaves doing.leaf })

  kept-by : {A : Type 0} (s : Said) (wallet : WalletRecords) (give : A → Response)
      (effect : WalletEffect (Result A WalletRefusal)) → KeptWallet dig s world.chain.log (after effect wallet)
      → IsKeptBy wallet (wallet_doing give effect)
  kept-by s wallet give effect is = (
    s,
    subst (KeptWallet dig s world.chain.log)
        (λ i. record {
          notes = more-same wallet.notes effect.note i;
          leaves = more-same wallet.leaves effect.leaf i;
        }) is,
  )

  wallet-keeps : (n : ℕ) (s : Said) (wallet : WalletRecords) → KeptWallet dig s world.chain.log wallet
      → (order : WalletOrder) → IsFitOrder (NodeOrder.Wallet order)
      → IsKeptBy wallet (wallet_does dig world.chain.log wallet order)
  unfolding wallet_does
  wallet-keeps n s wallet has (WalletOrder.Accept bytes) fit =
      kept-by _ wallet on_accepted (accept_effect dig wallet world.chain.log bytes)
      (accepts-kept dig s world.chain.log wallet has bytes fit n)
  wallet-keeps n s wallet has (WalletOrder.Send coin to last) fit =
      kept-by _ wallet on_sent (send_effect dig wallet world.chain.log coin to last)
      (sends-kept dig s world.chain.log wallet has (few-in world kept.frame) coin to last fit.0 fit.1.is fit.1.key fit.2
      n)
  wallet-keeps n s wallet has (WalletOrder.Leave coin) fit =
      kept-by _ wallet on_leaving (leave_effect dig wallet world.chain.log coin)
      (leaves-kept dig s world.chain.log wallet has (few-in world kept.frame) n coin fit)
  wallet-keeps n s wallet has (WalletOrder.Reclaim bytes) fit =
      kept-by _ wallet on_reclaimed (reclaim_effect dig wallet world.chain.log bytes)
      (reclaims-kept dig s world.chain.log wallet has (few-in world kept.frame) n bytes fit)
  wallet-keeps n s wallet has WalletOrder.Migrate fit =
      kept-by _ wallet on_migrated (migrate_effect wallet)
      (migrates-kept dig s world.chain.log wallet has (few-in world kept.frame) n)
  wallet-keeps n s wallet has order fit = (s, has)

  -- a wallet has no order of another node
  pub order-keeps : (n : ℕ) (node : Node) (order : NodeOrder) → IsOrderAt node.role order → IsFitOrder order
      → IsKept dig world.chain.log n node
      → IsKept dig world.chain.log n
      (with_records node (as_deed n order (node_does dig world.chain.log node order)))
  order-keeps n node (NodeOrder.Wallet order) at fit has = λ wallet.
      let it = has wallet in
      wallet-keeps n it.0 (wallet_of node) it.1 order fit
  order-keeps n node (NodeOrder.Watcher order) at fit has = λ wallet.
      absurd (false≢true (sym (wallet-alone node.role wallet).0 ∙ at))
  order-keeps n node (NodeOrder.Operator order) at fit has = λ wallet.
      absurd (false≢true (sym (wallet-alone node.role wallet).1 ∙ at))
  order-keeps n node NodeOrder.Open at fit has = has
