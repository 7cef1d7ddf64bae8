-- What a crash left of an order that it stopped tells its event.
use Rattle.std.proofs.Common.{◌≡◌, ℕ, ◌^◌, ◌<◌, Bool, true, false, if◌then◌else◌, List, [], ◌∷◌, ◌++◌, length, Option, Some, None, Ok, Err, refl, sym, ap, ◌∙◌, subst, append-nil}
use Rattle.std.specs.Prelude.{Result, slice_get, unwrap_or}
use Rattle.std.specs.List.{list_any}
use Rattle.std.specs.Int.{w32, to_be_bytes}
use Rattle.std.specs.Option.{option_map_or, option_or}
use Rattle.node_journal.specs.Effect.{Effect, only, first_cause, unless}
use Rattle.leaf_journal.specs.Records.{binding_record}
use Rattle.lms_sign.specs.Tree.{signature_of}
use Rattle.plasma_base.specs.Fields.{field_at}
use Rattle.plasma_base.proofs.FieldLaws.{field_at-put_32}
use Rattle.plasma_tx.specs.declared.owner.Owner.{Owner}
use Rattle.plasma_tx.specs.declared.links.Links.{Links}
use Rattle.plasma_tx.specs.declared.call.RootCall.{RootCall}
use Rattle.plasma_tx.specs.Spelling.{number_text, body_text, body_at_start}
use Rattle.plasma_tx.proofs.Names.{some_same}
use Rattle.coin_history.specs.declared.bundle.Bundle.{Bundle}
use Rattle.coin_history.specs.declared.refusal.HistoryRefusal.{HistoryRefusal}
use Rattle.coin_history.specs.Bundles.{bundle_in}
use Rattle.wallet_core.specs.declared.notes.LeafRecord.{LeafRecord}
use Rattle.node_rules.specs.declared.answers.Accepted.{Accepted}
use Rattle.node_rules.specs.declared.answers.Sent.{Sent}
use Rattle.node_rules.specs.declared.answers.Reclaimed.{Reclaimed}
use Rattle.node_rules.specs.declared.refusal.WalletRefusal.{WalletRefusal}
use Rattle.node_rules.specs.declared.refusal.WatcherRefusal.{WatcherRefusal}
use Rattle.node_rules.specs.Kept.{links_handed}
use Rattle.node_rules.specs.WalletRecords.{Reclaims, note_text, secret_of, leaves_in}
use Rattle.node_rules.specs.WalletOpening.{is_wallet}
use Rattle.node_rules.specs.WalletCommandLaws.{sent_body}
use Rattle.node_rules.specs.Wallet.{WalletRecords, WalletEffect, who, used, coin_state, accept_effect, send_effect, again_answer, leave_effect, reclaim_by, reclaim_effect, migrate_effect}
use Rattle.node_rules.specs.declared.refusal.WatcherRefusal.TheVariants.{NoGuard}
use Rattle.node_rules.specs.Watcher.{Released, note_text as watcher_text, is_of, guards_in, who_is, guard_causes, guard_taken, guard_by, guard_effect, release_effect}
use Rattle.node_rules.proofs.WalletAdded.{IsTaken, send-leaf, send-may, reclaim-note, reclaim-leaf}
use Rattle.node_rules.proofs.WalletGrow.{wallet-parts}
use Rattle.node_rules.proofs.WalletTips.{tag-long, leaf-fits}
use Rattle.operator_rules.specs.Commands.{offer_effect, lay_effect, seal_effect, prove_answer, bundle_answer, absences_answer}
use Rattle.node_replies.specs.Causes.{wallet_cause, watcher_cause, offer_cause, lay_cause, seal_cause, prove_cause}
use Rattle.world_rules.specs.Events.{Other}
use Rattle.world_rules.specs.World.{Node, wallet_of}
use Rattle.node_replies.specs.Orders.{Response, Doing, answered, on_accepted, on_sent, on_leaving, on_reclaimed, on_migrated, on_guarded, on_released, on_pooled, on_laid, on_sealed, on_bundled, on_proved, wallet_does, watcher_does, operator_does}
use Rattle.world_rules.specs.OrderEvents.{bundle_read, event_of}
use Rattle.world_rules.specs.Steps.{without_offers}
use Rattle.node_replies.proofs.WalletEnds.{AcceptEnds, SendEnds, Refused, Known, New, Sends, accept_ends, send_ends}
use Rattle.node_replies.specs.declared.order.WalletOrder.{WalletOrder}
use Rattle.node_replies.specs.declared.order.WatcherOrder.{WatcherOrder}
use Rattle.node_replies.specs.declared.order.OperatorOrder.{OperatorOrder}
use Rattle.node_replies.specs.declared.order.NodeOrder.{NodeOrder}
use Rattle.world_rules.specs.Orders.{node_does}
use Rattle.world_nodes.specs.Cuts.{is_kept}
use Rattle.world_trace.specs.declared.event.LineEvent.{LineEvent}
use Rattle.world_trace.specs.Orders.{TellsStopped, event_stopped, HasRecords, bound_event, IsNodeEvent}
use Rattle.world_trace.specs.Reading.{body_found, message_in, leaf_at_end}
use Rattle.world_trace.specs.Told.{HasKey, kept_told}
use Rattle.world_trace.proofs.BodyLaws.{found-bound}
use Rattle.world_trace.proofs.AnswerLaws.{answered-all}

-- ---- what is kept

-- the event of what is given is this one, where the order's record is among these
abbrev KeptBy : ℕ → NodeOrder → LineEvent → List ℕ → Option (List ℕ) → Option (List ℕ) → Response → Type 0
KeptBy n order event bytes note leaf response =
    Some bytes ≡ option_or note leaf → IsNodeEvent (without_offers n (event_of n order response)) event

module _ (dig : List ℕ → List ℕ) (log : List RootCall) (n : ℕ) (bytes : List ℕ) where
  -- a coin that was accepted
  accept-kept : (wallet : WalletRecords) (bundle : List ℕ) → let effect = accept_effect dig wallet log bundle in
      KeptBy n (NodeOrder.Wallet (WalletOrder.Accept bundle))
      (LineEvent.Accepts n (bundle_read bundle)) bytes effect.note effect.leaf
      (answered wallet_cause on_accepted effect.answer)
  unfolding event_of
  accept-kept wallet bundle = by (accept_ends dig wallet log bundle)
    where
      Kept : WalletEffect (Result Accepted WalletRefusal) → Type 0
      Kept effect =
          KeptBy n (NodeOrder.Wallet (WalletOrder.Accept bundle))
          (LineEvent.Accepts n (bundle_read bundle)) bytes effect.note effect.leaf
          (answered wallet_cause on_accepted effect.answer)

      by : AcceptEnds dig wallet log bundle (accept_effect dig wallet log bundle)
          → Kept (accept_effect dig wallet log bundle)
      by (Refused why is) = subst Kept (sym is) (λ wrong. absurd (cc wrong))
      by (Known links handed mine known is) = subst Kept (sym is) (λ wrong. absurd (cc wrong))
      by (New links handed is) = subst Kept (sym is) (λ added tests rules calls. refl)

  -- a transfer that was signed
  module _ (wallet : WalletRecords) (is : is_wallet dig wallet ≡ true) where
    -- the body is found in its record
    body-found : (coin tip : ℕ) (to : Owner) (last : Option ℕ) → length to.key ≡ 56
        → (send_effect dig wallet log coin to last).leaf
        ≡ Some (binding_record wallet.leaves (body_text (sent_body wallet coin tip to last)))
        → (signature : List ℕ)
        → body_found (message_in (binding_record wallet.leaves (body_text (sent_body wallet coin tip to last))))
        ≡ Some (body_at_start (body_text (sent_body wallet coin tip to last) ++ signature))
    unfolding send_effect
    body-found coin tip to last key_long added signature =
        let known = send-leaf wallet log coin to last (coin_state dig wallet log coin)
        (binding_record wallet.leaves (body_text (sent_body wallet coin tip to last))) added in
        let tag = tag-long dig wallet.notes (wallet-parts dig wallet is).role in
        let may = send-may wallet log coin to tip last tag key_long known.2 in
        found-bound (who wallet).tag coin tip to tag key_long wallet.leaves last signature may.1

    send-kept : (coin : ℕ) (to : Owner) (last : Option ℕ) → length to.key ≡ 56
        → let effect = send_effect dig wallet log coin to last in
        KeptBy n (NodeOrder.Wallet (WalletOrder.Send coin to last))
        (bound_event n (body_found (message_in bytes))) bytes effect.note effect.leaf
        (answered wallet_cause on_sent effect.answer)
    unfolding event_of
    send-kept coin to last key_long = by (send_ends dig wallet log coin to last)
      where
        Kept : WalletEffect (Result Sent WalletRefusal) → Type 0
        Kept effect =
            KeptBy n (NodeOrder.Wallet (WalletOrder.Send coin to last))
            (bound_event n (body_found (message_in bytes))) bytes effect.note effect.leaf
            (answered wallet_cause on_sent effect.answer)

        by : SendEnds dig wallet log coin to last (send_effect dig wallet log coin to last)
            → Kept (send_effect dig wallet log coin to last)
        by (Refused why is) = subst Kept (sym is) (λ wrong. absurd (cc wrong))
        by (Sends tip held is) =
            let text = body_text (sent_body wallet coin tip to last) in
            let leaf_is = ap (λ (e : WalletEffect (Result Sent WalletRefusal)). e.leaf) is in
            let found = body-found coin tip to last key_long leaf_is
            (signature_of (secret_of (who wallet)) (used wallet) text) in
            subst Kept (sym is)
            (λ added tests rules calls.
            ap (λ (b : List ℕ). bound_event n (body_found (message_in b)))
            (some_same bytes (binding_record wallet.leaves text) added)
            ∙ ap (bound_event n) found)

    -- ---- a transfer that was taken back

    leaf-read : (coin tip q : ℕ) → q < 2 ^ 32 → leaf_at_end (note_text (Reclaims coin tip q)) ≡ q
    unfolding note_text
    leaf-read coin tip q small =
        let front : List ℕ = 5 ∷ (number_text coin ++ number_text tip) in
        ap (λ (b : List ℕ). unwrap_or (field_at w32 b 17) 0) (sym (append-nil (front ++ to_be_bytes w32 q)))
        ∙ ap (λ (o : Option ℕ). unwrap_or o 0) (field_at-put_32 front [] q small)

    leaf-small : (q last : ℕ) (found : Option LeafRecord) → slice_get (leaves_in wallet.leaves) q ≡ found
        → option_map_or (λ leaf. leaf.body.last) found None ≡ Some last → q < 2 ^ 32
    leaf-small q last None none wrong = absurd (cc wrong)
    leaf-small q last (Some leaf) some has = leaf-fits dig wallet q leaf is some

    reclaim-kept : (bundle : List ℕ) → let effect = reclaim_effect dig wallet log bundle in
        KeptBy n (NodeOrder.Wallet (WalletOrder.Reclaim bundle))
        (LineEvent.TakesBack n (leaf_at_end bytes) (bundle_read bundle)) bytes effect.note effect.leaf
        (answered wallet_cause on_reclaimed effect.answer)
    unfolding reclaim_effect event_of
    reclaim-kept bundle = at (bundle_in bundle) (reclaim-leaf dig wallet log (bundle_in bundle))
      where
        Kept : WalletEffect (Result Reclaimed WalletRefusal) → Type 0
        Kept effect =
            KeptBy n (NodeOrder.Wallet (WalletOrder.Reclaim bundle))
            (LineEvent.TakesBack n (leaf_at_end bytes) (bundle_read bundle)) bytes effect.note effect.leaf
            (answered wallet_cause on_reclaimed effect.answer)

        noted : (note leaf : Option (List ℕ)) → leaf ≡ None → Some bytes ≡ option_or note leaf → note ≡ Some bytes
        noted None leaf none wrong = absurd (cc (none, wrong))
        noted (Some note) leaf none same = sym same

        known : (read : Bundle) → let effect = reclaim_by dig wallet log (Ok read) in
            IsTaken wallet (coin_state dig wallet log read.coin) read.coin bytes effect.answer
            → IsNodeEvent (without_offers n (event_of n (NodeOrder.Wallet (WalletOrder.Reclaim bundle))
            (answered wallet_cause on_reclaimed effect.answer)))
            (LineEvent.TakesBack n (leaf_at_end bytes) (bundle_read bundle))
        known read taken =
            let small = leaf-small taken.q taken.last (slice_get (leaves_in wallet.leaves) taken.q) refl taken.has_last
            in
            let leaf : leaf_at_end bytes ≡ taken.q =
            ap leaf_at_end (sym taken.text) ∙ leaf-read read.coin taken.tip taken.q small in
            subst (λ (r : Result Reclaimed WalletRefusal).
            IsNodeEvent (without_offers n (event_of n (NodeOrder.Wallet (WalletOrder.Reclaim bundle))
            (answered wallet_cause on_reclaimed r)))
            (LineEvent.TakesBack n (leaf_at_end bytes) (bundle_read bundle))) (sym taken.answered)
            (λ tests rules calls. ap (λ (q : ℕ). LineEvent.TakesBack n q (bundle_read bundle)) leaf)

        at : (read : Result Bundle HistoryRefusal) → (reclaim_by dig wallet log read).leaf ≡ None
            → Kept (reclaim_by dig wallet log read)
        at (Err why) none = λ wrong. absurd (cc wrong)
        at (Ok read) none = λ added.
            known read
            (reclaim-note dig wallet log read (coin_state dig wallet log read.coin) bytes
            (noted (reclaim_by dig wallet log (Ok read)).note (reclaim_by dig wallet log (Ok read)).leaf none added))

  -- ---- watchers

  guard-kept : (notes : List (List ℕ)) (bundle : List ℕ) → let effect = guard_effect dig notes log bundle in
      KeptBy n (NodeOrder.Watcher (WatcherOrder.Guard bundle))
      (LineEvent.Guards n (bundle_read bundle)) bytes effect.note None
      (answered watcher_cause on_guarded effect.answer)
  unfolding guard_effect event_of
  guard-kept notes bundle = at (links_handed dig (who_is notes).tag log bundle)
    where
      Kept : Effect (Result Accepted WatcherRefusal) → Type 0
      Kept effect =
          KeptBy n (NodeOrder.Watcher (WatcherOrder.Guard bundle))
          (LineEvent.Guards n (bundle_read bundle)) bytes effect.note None
          (answered watcher_cause on_guarded effect.answer)

      by : (links : Links) (failed : Option WatcherRefusal)
          → Kept (unless failed (guard_taken (guards_in dig notes) links))
      by links None = λ added tests rules calls. refl
      by links (Some why) = λ wrong. absurd (cc wrong)

      at : (handed : Result Links HistoryRefusal) → Kept (guard_by log (guards_in dig notes) handed)
      at (Err why) = λ wrong. absurd (cc wrong)
      at (Ok links) = by links (first_cause (guard_causes log links))

  release-kept : (notes : List (List ℕ)) (coin tip : ℕ) → let effect = release_effect dig notes coin tip in
      KeptBy n (NodeOrder.Watcher (WatcherOrder.Release coin tip))
      (LineEvent.Releases n coin tip) bytes effect.note None
      (answered watcher_cause on_released effect.answer)
  unfolding release_effect event_of
  release-kept notes coin tip = at (list_any (is_of coin tip) (guards_in dig notes))
    where
      Kept : Effect (Result Unit WatcherRefusal) → Type 0
      Kept effect =
          KeptBy n (NodeOrder.Watcher (WatcherOrder.Release coin tip))
          (LineEvent.Releases n coin tip) bytes effect.note None
          (answered watcher_cause on_released effect.answer)

      at : (b : Bool)
          → Kept (if b then record { answer = Ok tt; note = Some (watcher_text (Released coin tip)) }
          else only (Err NoGuard))
      at true = λ added tests rules calls. refl
      at false = λ wrong. absurd (cc wrong)

  -- ---- orders by role

  -- the event is one of no command with a name
  abbrev IsOther : NodeOrder → Response → Type 0
  IsOther order response = IsNodeEvent (without_offers n (event_of n order response)) (LineEvent.Other n)

  wallet-kept : (wallet : WalletRecords) → is_wallet dig wallet ≡ true → (order : WalletOrder)
      → HasKey (NodeOrder.Wallet order) → let doing = wallet_does dig log wallet order in
      KeptBy n (NodeOrder.Wallet order) (kept_told n (NodeOrder.Wallet order) bytes) bytes doing.note doing.leaf
      doing.response
  unfolding wallet_does event_of
  wallet-kept wallet is (WalletOrder.Accept bundle) key = accept-kept wallet bundle
  wallet-kept wallet is (WalletOrder.Send coin to last) key = send-kept wallet is coin to last key
  wallet-kept wallet is (WalletOrder.Again coin) key = λ added.
      answered-all (IsOther (NodeOrder.Wallet (WalletOrder.Again coin))) wallet_cause on_sent
      (λ sent tests rules calls. refl) (λ why tests rules calls. refl)
      (again_answer wallet coin)
  wallet-kept wallet is (WalletOrder.Leave coin) key = λ added.
      answered-all (IsOther (NodeOrder.Wallet (WalletOrder.Leave coin))) wallet_cause on_leaving
      (λ call tests rules calls. refl) (λ why tests rules calls. refl)
      (leave_effect dig wallet log coin).answer
  wallet-kept wallet is (WalletOrder.Reclaim bundle) key = reclaim-kept wallet is bundle
  wallet-kept wallet is WalletOrder.Migrate key = λ added.
      answered-all (IsOther (NodeOrder.Wallet WalletOrder.Migrate)) wallet_cause on_migrated
      (λ done tests rules calls. refl) (λ why tests rules calls. refl)
      (migrate_effect wallet).answer
  wallet-kept wallet is WalletOrder.Watch key = λ added tests rules calls. refl

  watcher-kept : (notes : List (List ℕ)) (order : WatcherOrder)
      → let doing = watcher_does dig log notes order in
      KeptBy n (NodeOrder.Watcher order) (kept_told n (NodeOrder.Watcher order) bytes) bytes doing.note doing.leaf
      doing.response
  unfolding watcher_does event_of
  watcher-kept notes (WatcherOrder.Guard bundle) = guard-kept notes bundle
  watcher-kept notes (WatcherOrder.Release coin tip) = release-kept notes coin tip
  watcher-kept notes WatcherOrder.Watch = λ added tests rules calls. refl

  operator-kept : (notes : List (List ℕ)) (order : OperatorOrder)
      → IsOther (NodeOrder.Operator order) (operator_does dig log notes order).response
  unfolding operator_does event_of
  operator-kept notes (OperatorOrder.Offer transfer) =
      answered-all (IsOther (NodeOrder.Operator (OperatorOrder.Offer transfer))) offer_cause on_pooled
      (λ coin tests rules calls. refl) (λ why tests rules calls. refl)
      (offer_effect dig notes log transfer).answer
  operator-kept notes (OperatorOrder.Lay coin leaf) =
      answered-all (IsOther (NodeOrder.Operator (OperatorOrder.Lay coin leaf))) lay_cause (on_laid coin)
      (λ done tests rules calls. refl) (λ why tests rules calls. refl)
      (lay_effect coin leaf).answer
  operator-kept notes OperatorOrder.Seal =
      answered-all (IsOther (NodeOrder.Operator OperatorOrder.Seal)) seal_cause on_sealed
      (λ sealed tests rules calls. refl) (λ why tests rules calls. refl)
      (seal_effect dig notes).answer
  operator-kept notes (OperatorOrder.Bundle coin tip) =
      answered-all (IsOther (NodeOrder.Operator (OperatorOrder.Bundle coin tip))) prove_cause on_bundled
      (λ bundle tests rules calls. refl) (λ why tests rules calls. refl)
      (bundle_answer dig notes log coin tip)
  operator-kept notes (OperatorOrder.Prove coin block) =
      answered-all (IsOther (NodeOrder.Operator (OperatorOrder.Prove coin block))) prove_cause on_proved
      (λ opening tests rules calls. refl) (λ why tests rules calls. refl)
      (prove_answer dig notes log coin block)
  operator-kept notes (OperatorOrder.Absences coin after last) =
      answered-all (IsOther (NodeOrder.Operator (OperatorOrder.Absences coin after last))) prove_cause on_bundled
      (λ bundle tests rules calls. refl) (λ why tests rules calls. refl)
      (absences_answer dig notes log coin after last)

  node-kept : (node : Node) (order : NodeOrder) → HasRecords dig node order → HasKey order
      → let doing = node_does dig log node order in
      KeptBy n order (kept_told n order bytes) bytes doing.note doing.leaf
      doing.response
  node-kept node (NodeOrder.Wallet order) is key = wallet-kept (wallet_of node) is order key
  node-kept node (NodeOrder.Watcher order) is key = watcher-kept node.notes order
  node-kept node (NodeOrder.Operator order) is key = λ added. operator-kept node.notes order
  node-kept node NodeOrder.Open is key = λ wrong. absurd (cc wrong)

-- ---- orders that were stopped

-- what is told of a record that is kept is the order's event
pub kept_tells : (n : ℕ) (order : NodeOrder) (bytes : List ℕ) (event : LineEvent) → HasKey order
    → event ≡ kept_told n order bytes → TellsStopped n order (Some bytes) event
kept_tells n order bytes event key told dig log node calls outcome has stopped kept =
    subst (IsNodeEvent (event_stopped dig log n node calls outcome order)) (sym told)
    (by (is_kept calls outcome order) kept)
  where
    doing : Doing
    doing = node_does dig log node order

    by : (b : Bool) → Some bytes ≡ (if b then option_or doing.note doing.leaf else None)
        → IsNodeEvent (if b then without_offers n (event_of n order doing.response) else Other n)
        (kept_told n order bytes)
    by true added = node-kept dig log n bytes node order has key added
    by false wrong = absurd (cc wrong)
