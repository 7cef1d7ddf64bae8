-- What each step does to the nodes and their records.
use Rattle.world_rules.proofs.Basics.{◌≡◌, ◌⊎◌, ℕ, List, Option, None, inl, refl, sym, ap, subst, arith, common_steps}
use Rattle.world_rules.proofs.CoinWords.{Owner, bundle_in}
use Rattle.world_rules.proofs.NodeWords.{links_handed, WalletRecords, noted, who, coin_state, accept_effect, send_effect, leave_effect, reclaim_effect, accept-leaf, send-note, leave-leaf, reclaim-leaf, migrate-note, NodeOrder, WalletOrder, with_record, wallet_does, watcher_does, operator_does}
use Rattle.world_rules.proofs.WorldWords.{Node, World, Deed, as_deed, node_does, LineEffect, after_crash, GrowsByOne, GrowsAtMost, ChangesOneNode, DeclaresOneNode, RecordsGrow, NewWallet, NewWatcher, NewRogue, Act, Adds, Orders, Crashes, End, end_of, node_after, deed_at}
use Rattle.world_rules.proofs.Nodes.{Change, OneNode, change_of, nodes_after, nodes-done, IsOld, is-old}
use Rattle.world_rules.proofs.Lives.{stepped}

-- ---- a deed adds at most one record

-- none is added to the notes, or none to the leaves
abbrev pub AddsOne : Deed → Type 0
AddsOne deed = (deed.note ≡ None) ⊎ (deed.leaf ≡ None)

module _ (dig : List ℕ → List ℕ) (world : World) (n : ℕ) where
  accept-one : (wallet : WalletRecords) (bytes : List ℕ)
      → (accept_effect dig wallet world.chain.log bytes).leaf ≡ None
  unfolding Rattle.node_rules.specs.Wallet.accept_effect
  accept-one wallet bytes =
      accept-leaf world.chain.log (noted dig wallet) (links_handed dig (who wallet).tag world.chain.log bytes)

  send-one : (wallet : WalletRecords) (coin : ℕ) (to : Owner) (last : Option ℕ)
      → (send_effect dig wallet world.chain.log coin to last).note ≡ None
  unfolding Rattle.node_rules.specs.Wallet.send_effect
  send-one wallet coin to last =
      send-note wallet world.chain.log coin to last (coin_state dig wallet world.chain.log coin)

  leave-one : (wallet : WalletRecords) (coin : ℕ) → (leave_effect dig wallet world.chain.log coin).leaf ≡ None
  unfolding Rattle.node_rules.specs.Wallet.leave_effect
  leave-one wallet coin = leave-leaf dig wallet world.chain.log coin (coin_state dig wallet world.chain.log coin)

  reclaim-one : (wallet : WalletRecords) (bytes : List ℕ)
      → (reclaim_effect dig wallet world.chain.log bytes).leaf ≡ None
  unfolding Rattle.node_rules.specs.Wallet.reclaim_effect
  reclaim-one wallet bytes = reclaim-leaf dig wallet world.chain.log (bundle_in bytes)

  wallet-one : (wallet : WalletRecords) (order : WalletOrder)
      → ((wallet_does dig world.chain.log wallet order).note ≡ None)
      ⊎ ((wallet_does dig world.chain.log wallet order).leaf ≡ None)
  unfolding wallet_does
  wallet-one wallet order = grind (arith, common_steps, accept-one, send-one, leave-one, reclaim-one, migrate-note)

  -- watchers and the operator have no leaves
  order-one : (node : Node) (order : NodeOrder)
      → AddsOne (as_deed n order (node_does dig world.chain.log node order))
  unfolding watcher_does operator_does
  order-one node order = grind (arith, common_steps, wallet-one)

-- ---- so a node's records grow by at most one

-- records stay without a record, and have it behind them with one
recorded : (records : List (List ℕ)) (more : Option (List ℕ))
    → (with_record records more ≡ records) ⊎ GrowsByOne records (with_record records more)
recorded records more = grind (arith, common_steps)

none-stays : (records : List (List ℕ)) (more : Option (List ℕ)) → more ≡ None → with_record records more ≡ records
none-stays records more is = ap (with_record records) is

-- the node with the records, up or down and with other offers
grows : (node after : Node) (deed : Deed) → AddsOne deed → after.name ≡ node.name → after.account ≡ node.account
    → after.role ≡ node.role → after.notes ≡ with_record node.notes deed.note
    → after.leaves ≡ with_record node.leaves deed.leaf → GrowsAtMost node after
grows node after deed one name account role notes leaves = grind (arith, common_steps, none-stays, recorded)

-- a node that crashes keeps its records
crash-grows : (node : Node) → GrowsAtMost node (after_crash node)
crash-grows node = record { name = refl; account = refl; role = refl; notes = inl refl; leaves = inl refl }

-- however an order ends
grows-after : (node : Node) (deed : Deed) → AddsOne deed → (end : End) → GrowsAtMost node (node_after node deed end)
grows-after node deed one end = grind (arith, common_steps, grows, crash-grows)

-- ---- each act

abbrev pub NodesGrow : World → List Node → Type 0
NodesGrow world after = (after ≡ world.nodes) ⊎ ChangesOneNode world.nodes after ⊎ DeclaresOneNode world.nodes after

module _ (dig : List ℕ → List ℕ) (world : World) where
  -- what changes grows at most by one
  abbrev Grows : Change → Type 0
  Grows (OneNode place after) = GrowsAtMost place.node after
  Grows change = Unit {0}

  change-grows : (change : Change) → IsOld world.nodes change → Grows change
      → NodesGrow world (nodes_after change world.nodes)
  change-grows change old grow = grind (arith, common_steps, grows)

  act-grows : (act : Act) → Grows (change_of dig world act)
  act-grows (Adds name (NewWallet who)) = tt
  act-grows (Adds name (NewWatcher account)) = tt
  act-grows (Adds name (NewRogue who)) = tt
  act-grows (Orders place order cut) =
      let deed = deed_at dig world place order in
      grows-after place.node deed (order-one dig world place.number place.node order) (end_of cut place.node order deed)
  act-grows (Crashes place) = crash-grows place.node
  act-grows act = tt

pub records_grow : RecordsGrow
records_grow dig world line effect is =
    let made = stepped dig world line effect is in
    subst (λ (e : LineEffect). NodesGrow world e.world.nodes) made.effect_is
    (subst (NodesGrow world) (sym (nodes-done dig world made.act))
    (change-grows dig world (change_of dig world made.act) (is-old dig world made.act made.known)
    (act-grows dig world made.act)))
