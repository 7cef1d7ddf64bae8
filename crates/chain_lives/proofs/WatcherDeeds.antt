-- What a watcher's order is, where events say what its records are: a legal event; and with it they say so still.
use Rattle.std.proofs.Common.{◌≡◌, ℕ, true, List, [], ◌∷◌, Option, None, refl, sym, ap, ◌∙◌, subst, arith}
use Rattle.std.proofs.lemmas.Bool.{false≢true}
use Rattle.std.proofs.lemmas.Grind.{common_steps}
use Rattle.node_journal.specs.Role.{Kinds, are_of}
use Rattle.plasma_tx.specs.declared.call.RootCall.{RootCall}
use Rattle.plasma_tx.specs.Shown.{Rules, tests_by}
use Rattle.node_rules.specs.Watcher.{watcher_kinds, who_is, guards_in, watch_answer}
use Rattle.node_rules.specs.Wallet.{WalletRecords}
use Rattle.node_replies.specs.declared.order.WatcherOrder.{WatcherOrder}
use Rattle.node_replies.specs.declared.order.NodeOrder.{NodeOrder}
use Rattle.node_replies.specs.Orders.{with_record, watcher_does}
use Rattle.node_lines.specs.Grammar.{IsWatcherLine}
use Rattle.node_answers.specs.Answers.{watcher_outcome}
use Rattle.world_rules.specs.Events.{Event, log_of, wallet_owner}
use Rattle.world_rules.specs.World.{Node, Watcher}
use Rattle.world_rules.specs.OrderEvents.{event_of}
use Rattle.world_rules.specs.Steps.{without_offers}
use Rattle.world_rules.proofs.OrderEnds.{OrderEnds, Others, Accepting, Binding, Leaving, TakingBack, Watching, Guarding, Releasing, GuardWatching, Sealing, IsOrderAt, order-ends}
use Rattle.world_rules.proofs.Said.{Said, said, told}
use Rattle.world_rules.proofs.KeptWatcher.{KeptWatcher, guards-kept, releases-kept}
use Rattle.world_rules.proofs.KeptNode.{IsFitOrder}
use Rattle.world_laws.specs.Legal.{IsLegalEvent, LegalWatch}
use Rattle.world_laws.proofs.GuardsShown.{AreShown, guard-shown, release-shown}
use Rattle.world_laws.proofs.LegalWatches.{watch-by}
use Rattle.world_laws.proofs.LegalEvents.{legal-guarded}
use Rattle.chain_lives.specs.Acts.{watcher_deed}
use Rattle.chain_lives.proofs.Log.{order_quiet}
use Rattle.chain_lives.proofs.Sayings.{said-near, said-cut}
use Rattle.chain_lives.proofs.Following.{Follows}

-- What events say of watcher n, whose chain has this tag, is what its records are: it is no wallet, it guards what its
-- notes do, and bundles that it guards show these.
pub record TellsWatcher (dig : List ℕ → List ℕ) (tag : List ℕ) (n : ℕ) (events : List Event) (records : WalletRecords)
    : Type 0 where
  pub kept : KeptWatcher dig (said events n) records.notes
  pub tag_is : (who_is records.notes).tag ≡ tag
  pub shown : AreShown tag (said events n).guarded (guards_in dig records.notes)
  pub owner : (said events n).owner ≡ None

-- a node with a watcher's notes
abbrev guardian : List (List ℕ) → Node
guardian notes = record {
  name = [];
  account = 0;
  role = Watcher;
  is_up = true;
  notes = notes;
  leaves = [];
  offers = [];
}

-- who the first record names stays with more behind it
who-more : (kinds : Kinds) (records : List (List ℕ)) (note : Option (List ℕ)) → are_of kinds records ≡ true
    → who_is (with_record records note) ≡ who_is records
unfolding who_is
who-more kinds records added is = grind (arith, common_steps, false≢true) steps 20000

-- behind more events that say nothing of the watcher
pub watcher-aside : (dig : List ℕ → List ℕ) (tag : List ℕ) (n : ℕ) (events more : List Event) (records : WalletRecords)
    → TellsWatcher dig tag n events records → said more n ≡ said events n → TellsWatcher dig tag n more records
watcher-aside dig tag n events more records tells same = grind (arith, common_steps) steps 20000

module _ (dig : List ℕ → List ℕ) (rules : Rules) (n : ℕ) (events : List Event) (records : WalletRecords)
    (tells : TellsWatcher dig rules.tag n events records) where
  abbrev log : List RootCall
  log = log_of events

  abbrev notes : List (List ℕ)
  notes = records.notes

  abbrev order_event : WatcherOrder → Event
  order_event order = event_of n (NodeOrder.Watcher order) (watcher_does dig log notes order).response

  abbrev after_order : WatcherOrder → List (List ℕ)
  after_order order = with_record notes (watcher_does dig log notes order).note

  order-kept : (order : WatcherOrder) → IsFitOrder (NodeOrder.Watcher order)
      → KeptWatcher dig (told (order_event order) (said events n)) (after_order order)
  unfolding watcher_does event_of
  order-kept (WatcherOrder.Guard bytes) fit = guards-kept dig (said events n) log notes tells.kept n bytes fit
  order-kept (WatcherOrder.Release coin tip) fit =
      releases-kept dig (said events n) log notes tells.kept n coin tip fit.0 fit.1
  order-kept WatcherOrder.Watch fit = tells.kept

  order-shown : (order : WatcherOrder) → IsFitOrder (NodeOrder.Watcher order)
      → AreShown rules.tag (told (order_event order) (said events n)).guarded (guards_in dig (after_order order))
  unfolding watcher_does event_of
  order-shown (WatcherOrder.Guard bytes) fit =
      guard-shown dig rules.tag (said events n) log notes tells.kept tells.tag_is tells.shown n bytes fit
  order-shown (WatcherOrder.Release coin tip) fit =
      release-shown dig rules.tag (said events n) log notes tells.kept tells.tag_is tells.shown n coin tip fit.0 fit.1
  order-shown WatcherOrder.Watch fit = tells.shown

  -- no order of a watcher declares a wallet
  owner-told : (order : WatcherOrder) (event : Event) (calls : List RootCall)
      → OrderEnds dig log n (guardian notes) (NodeOrder.Watcher order) event calls → (s : Said)
      → (told event s).owner ≡ s.owner
  owner-told order event calls ends s = grind (arith, common_steps, told) steps 20000

  -- with an event that says of the watcher what the order's does
  order-tells : (order : WatcherOrder) → IsFitOrder (NodeOrder.Watcher order) → (event : Event)
      → said (event ∷ events) n ≡ told (order_event order) (said events n) → (leaves : List (List ℕ))
      → TellsWatcher dig rules.tag n (event ∷ events) (record { notes = after_order order; leaves = leaves })
  order-tells order fit event same leaves = record {
    kept = subst (λ (s : Said). KeptWatcher dig s (after_order order)) (sym same) (order-kept order fit);
    tag_is =
        ap (λ w. w.tag)
        (who-more (watcher_kinds dig) notes (watcher_does dig log notes order).note tells.kept.is)
        ∙ tells.tag_is;
    shown =
        subst (λ (s : Said). AreShown rules.tag s.guarded (guards_in dig (after_order order))) (sym same)
        (order-shown order fit);
    owner =
        ap (λ (s : Said). s.owner) same
        ∙ owner-told order (order_event order) _ (order-ends dig log n (guardian notes) (NodeOrder.Watcher order))
        (said events n)
        ∙ tells.owner;
  }

  -- ---- legal events

  no-wallet : wallet_owner events n ≡ None
  unfolding said
  no-wallet = tells.owner

  watch-legal : LegalWatch rules events n (watch_answer dig notes log)
  unfolding watch_answer said
  watch-legal = grind (arith, common_steps, watch-by) steps 20000

  order-legal : (own : NodeOrder) (event : Event) (calls : List RootCall) → IsOrderAt Watcher own
      → OrderEnds dig log n (guardian notes) own event calls → IsLegalEvent (tests_by dig) rules events event
  order-legal own event calls role (Others order) = tt
  order-legal own event calls role (Accepting bytes taken made) = absurd (false≢true role)
  order-legal own event calls role (Binding coin to last sent made) = absurd (false≢true role)
  order-legal own event calls role (Leaving coin call made) = absurd (false≢true role)
  order-legal own event calls role (TakingBack bytes taken made) = absurd (false≢true role)
  order-legal own event calls role Watching = absurd (false≢true role)
  order-legal own event calls role (Guarding bytes taken made) =
      legal-guarded dig rules events log refl n notes no-wallet tells.tag_is bytes taken made
  order-legal own event calls role (Releasing coin tip) = tt
  order-legal own event calls role GuardWatching = watch-legal
  order-legal own event calls role Sealing = absurd (false≢true role)

  -- ---- a command

  fit-order : (order : WatcherOrder) → IsWatcherLine order → IsFitOrder (NodeOrder.Watcher order)
  fit-order order is = grind (arith, common_steps) steps 20000

  -- a command in the grammar
  pub watcher-follows : (order : WatcherOrder) → IsWatcherLine order
      → Follows dig rules n (TellsWatcher dig rules.tag n) events (watcher_deed n dig log records order)
  unfolding watcher_outcome
  watcher-follows order is =
      let fit = fit-order order is in
      let quiet = order_quiet n order (watcher_does dig log notes order).response in
      let event = order_event order in
      record {
        legal =
            order-legal (NodeOrder.Watcher order) event _ refl
            (order-ends dig log n (guardian notes) (NodeOrder.Watcher order));
        tells = order-tells order fit event (said-near n events event quiet.own) _;
        silent = order-tells order fit (without_offers n event) (said-cut n events event quiet.own) _;
      }
