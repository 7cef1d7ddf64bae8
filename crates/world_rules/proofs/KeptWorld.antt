-- What holds of a world behind the events of its lines, and each act that fits keeps it and makes bytes.
use Rattle.world_rules.proofs.Basics.{◌≡◌, ℕ, ◌^◌, ◌<◌, Bool, true, false, if◌then◌else◌, List, [], ◌∷◌, length, Option, Some, None, refl, sym, ◌∙◌, subst, arith, slice_get, eq-eqb, false≢true, common_steps}
use Rattle.world_rules.proofs.CoinWords.{RootCall, body_text, blocks}
use Rattle.world_rules.proofs.NodeWords.{WatcherIdentity, watcher_text, owner_of, wallet_text, NodeOrder, Small, small-nil, small-append, small-body, small-signature}
use Rattle.world_rules.proofs.WorldWords.{Event, Declares, Idle, log_of, Wallet, Watcher, Node, World, wallet_of, Deed, new_node, after_crash, IsDigest, Place, NewWallet, NewWatcher, NewRogue, Act, Signs, Adds, Orders, Crashes, End, end_of, node_after, deed_at, done, MayOrder, IsActIn}
use Rattle.world_rules.specs.Acts.{is_stopped}
use Rattle.world_rules.proofs.Said.{Said, said, nothing_said, told, said-own, said-other}
use Rattle.world_rules.proofs.KeptWallet.{wallet-longer}
use Rattle.world_rules.proofs.KeptNode.{KeptNode, Feeds, IsFitOrder, IsKeptDeed}
use Rattle.world_rules.proofs.NodeCommands.{order-kept}
use Rattle.world_rules.proofs.NewNodes.{new-watcher-kept}
use Rattle.world_rules.proofs.Fitting.{IsFitAct}
use Rattle.world_rules.proofs.Nodes.{change_of, EachNode, IsKeptOwn, each_node_keeps}
use Rattle.world_rules.proofs.NodeEvents.{event_told, other-of}
use Rattle.world_rules.proofs.Told.{order-told, said-others}
use Rattle.world_rules.proofs.Lines.{order-at}
use Rattle.world_rules.proofs.KeptFrame.{HasFrame, few-in, frame-kept, frame-item, frame-feeds, joined-wallet}
use Rattle.world_rules.proofs.StepLaws.{act-log}
use Rattle.world_rules.proofs.RunLaws.{log-more}
use Rattle.world_rules.proofs.Lives.{line_effect}

-- the node is of the type, by what is said of it
abbrev pub AreKeptNodes : (List ℕ → List ℕ) → List Event → List RootCall → List Node → Type 0
AreKeptNodes dig events log nodes =
    (n : ℕ) (node : Node) → slice_get nodes n ≡ Some node → KeptNode dig (said events n) log node

-- what is said of a world's nodes is what their records are, and nothing is said of others
pub record KeptWorld (dig : List ℕ → List ℕ) (events : List Event) (world : World) : Type 0 where
  pub frame : HasFrame world
  pub log_is : world.chain.log ≡ log_of events
  pub nodes : AreKeptNodes dig events world.chain.log world.nodes
  pub fresh : (n : ℕ) → slice_get world.nodes n ≡ None → said events n ≡ nothing_said

module _ (dig : List ℕ → List ℕ) (events : List Event) (world : World) (kept : KeptWorld dig events world) where
  pub few-blocks : blocks world.chain.log < 2 ^ 64
  few-blocks = few-in world kept.frame

  pub world-feeds : Feeds world
  unfolding owner_of
  world-feeds = frame-feeds world kept.frame (λ n node at role. ((kept.nodes n node at).wallet role).is_owner.account)

-- ---- one node

-- as a property of each number
abbrev Holds : (List ℕ → List ℕ) → List Event → List RootCall → ℕ → Option Node → Type 0
Holds dig events log n None = said events n ≡ nothing_said
Holds dig events log n (Some node) = KeptNode dig (said events n) log node

module _ (dig : List ℕ → List ℕ) where
  -- a node that is up or down, with other offers
  node-same : (s : Said) (log : List RootCall) (node : Node) (is_up : Bool) (offers : List RootCall)
      → KeptNode dig s log node → KeptNode dig s log (record node { is_up = is_up; offers = offers })
  node-same s log node is_up offers kept =
      record { wallet = kept.wallet; watcher = kept.watcher; operator = kept.operator }

  node-longer : (s : Said) (log : List RootCall) (call : RootCall) (node : Node) → KeptNode dig s log node
      → KeptNode dig s (call ∷ log) node
  node-longer s log call node kept = record {
    wallet = λ role. wallet-longer dig s log call (wallet_of node) (kept.wallet role);
    watcher = kept.watcher;
    operator = kept.operator;
  }

  -- however an order ends
  node-ended : (s : Said) (log : List RootCall) (n : ℕ) (node : Node) (deed : Deed) (end : End)
      → KeptNode dig s log node → IsKeptDeed dig s log node deed
      → KeptNode dig (told (event_told n deed end) s) log (node_after node deed end)
  node-ended s log n node deed end old new = grind (arith, common_steps, old, node-same)

module _ (dig : List ℕ → List ℕ) (is_digest : IsDigest dig) (events : List Event) (world : World)
    (kept : KeptWorld dig events world) where
  -- ---- one act

  abbrev Old : ℕ → Option Node → Type 0
  Old = Holds dig events world.chain.log

  abbrev After : Act → ℕ → Option Node → Type 0
  After act = Holds dig ((done dig world act).event ∷ events) (done dig world act).world.chain.log

  old : EachNode Old world.nodes
  old n = grind (arith, common_steps)

  -- a node's order
  ordered : (place : Place) (order : NodeOrder) → MayOrder world place order → IsFitOrder order
      → Old place.number (Some place.node)
      → IsKeptDeed dig (said events place.number) world.chain.log place.node (deed_at dig world place order)
  ordered place order may fit holds =
      order-kept dig is_digest (said events place.number) world (world-feeds dig events world kept) place.number
      place.node holds order (order-at place.node.role order may.role) fit

  -- a log that may be longer
  later : (act : Act) (s : Said) (node : Node) → KeptNode dig s world.chain.log node
      → KeptNode dig s (done dig world act).world.chain.log node
  later act s node has = grind (arith, common_steps, act-log, node-longer)

  other : (act : Act) (m : ℕ) (found : Option Node) → said ((done dig world act).event ∷ events) m ≡ said events m
      → Old m found → After act m found
  other act m found same fresh = grind (arith, common_steps, later, said)

  own : (act : Act) → IsActIn world act → IsFitAct act
      → IsKeptOwn Old (After act) world.nodes (change_of dig world act)
  unfolding done
  own (Adds name (NewWallet who)) known fit = λ fresh.
      let me = Declares (length world.nodes) (owner_of who) in
      subst (λ (s : Said). KeptNode dig s world.chain.log (new_node Wallet name who.account (wallet_text who)))
      (grind (arith, common_steps, said-own, eq-eqb, told))
      (record {
        wallet = λ role.
            joined-wallet dig world kept.frame who known.0 fit world.chain.log (length world.nodes);
        watcher = λ role. absurd (false≢true role);
        operator = λ role. absurd (false≢true role);
      })
  own (Adds name (NewWatcher account)) known fit = λ fresh.
      let me : WatcherIdentity = record { tag = world.chain.tag; account = account } in
      subst (λ (s : Said). KeptNode dig s world.chain.log (new_node Watcher name account (watcher_text me)))
      (sym (said-other Idle events (length world.nodes) refl ∙ fresh))
      (record {
        wallet = λ role. absurd (false≢true role);
        watcher = λ role. new-watcher-kept dig me (record { tag = kept.frame.tag_long; account = fit });
        operator = λ role. absurd (false≢true role);
      })
  own (Adds name (NewRogue who)) known fit = tt
  own (Orders place order cut) known fit = λ holds.
      let deed = deed_at dig world place order in
      let end = end_of cut place.node order deed in
      subst (λ (s : Said). KeptNode dig s world.chain.log (node_after place.node deed end))
      (sym (order-told dig world events place order end).is)
      (node-ended dig (said events place.number) world.chain.log place.number place.node deed end holds
      (ordered place order known fit holds))
  own (Crashes place) known fit = λ holds.
      subst (λ (s : Said). KeptNode dig s world.chain.log (after_crash place.node))
      (sym (other-of place.number events).is)
      (node-same dig (said events place.number) world.chain.log place.node false [] holds)
  own act known fit = tt

  made : (act : Act) → IsActIn world act → IsFitAct act → Small (done dig world act).made
  unfolding done
  made (Signs leaf body rogue) known fit =
      small-append (small-body body (subst Small (sym known.1) kept.frame.tag) fit.key)
      (small-signature rogue.secret leaf (body_text body))
  made (Adds name (NewWallet who)) known fit = small-nil
  made (Adds name (NewWatcher account)) known fit = small-nil
  made (Adds name (NewRogue who)) known fit = small-nil
  made (Orders place order cut) known fit = by (is_stopped (end_of cut place.node order deed))
    where
      deed : Deed
      deed = deed_at dig world place order

      by : (b : Bool) → Small (if b then [] else deed.gives.made)
      by true = small-nil
      by false = (ordered place order known fit (kept.nodes place.number place.node known.there)).made
  made act known fit = small-nil

  -- the world behind the act's event is kept
  pub act-kept : (act : Act) → IsActIn world act → IsFitAct act
      → KeptWorld dig ((done dig world act).event ∷ events) (line_effect dig world act).world
  act-kept act known fit = record {
    frame = frame-item (done dig world act).world (done dig world act).made (frame-kept dig world kept.frame act fit)
        (made act known fit);
    log_is = log-more dig world act events kept.log_is;
    nodes = λ n node is. subst (After act n) is (each n);
    fresh = λ n none. subst (After act n) none (each n);
  }
    where
      each : EachNode (After act) (done dig world act).world.nodes
      each = each_node_keeps Old (After act) dig world act known old (record {
        others = grind (arith, common_steps, other, said-other, said-others);
        own = own act known fit;
      })
