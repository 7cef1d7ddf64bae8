-- What an order gives tells its event.
use Rattle.std.proofs.Common.{◌≡◌, ℕ, Bool, true, false, List, Option, Ok, Err, refl, sym, ap, ◌∙◌, subst}
use Rattle.std.specs.Prelude.{Result}
use Rattle.std.proofs.lemmas.Bool.{false≢true}
use Rattle.plasma_tx.specs.declared.owner.Owner.{Owner}
use Rattle.plasma_tx.specs.declared.call.RootCall.{RootCall}
use Rattle.node_rules.specs.declared.answers.Sent.{Sent}
use Rattle.node_rules.specs.declared.refusal.WalletRefusal.{WalletRefusal}
use Rattle.node_rules.specs.WalletRecords.{secret_of}
use Rattle.node_rules.specs.Wallet.{WalletRecords, WalletEffect, who, used, accept_effect, send_effect, again_answer, leave_effect, reclaim_effect, migrate_effect, watch_answer as wallet_watch}
use Rattle.node_rules.specs.Watcher.{guard_effect, release_effect, watch_answer as watcher_watch}
use Rattle.operator_rules.specs.Commands.{offer_effect, lay_effect, seal_effect, prove_answer, bundle_answer, absences_answer}
use Rattle.node_replies.specs.declared.reply.Reply.{Reply}
use Rattle.node_replies.specs.Causes.{wallet_cause, watcher_cause, offer_cause, lay_cause, seal_cause, prove_cause}
use Rattle.world_rules.specs.Events.{Event, Watches}
use Rattle.world_rules.specs.World.{Node, wallet_of}
use Rattle.node_replies.specs.Orders.{Response, answered, refused, on_accepted, on_sent, on_leaving, on_reclaimed, on_migrated, on_guarded, on_released, on_pooled, on_laid, on_sealed, on_bundled, on_proved, wallet_does, watcher_does, operator_does}
use Rattle.world_rules.specs.Orders.{on_open, node_does}
use Rattle.world_rules.specs.OrderEvents.{event_of}
use Rattle.world_rules.specs.Steps.{without_offers}
use Rattle.node_replies.proofs.WalletEnds.{SendEnds, Refused, Sends, send_ends}
use Rattle.node_replies.specs.declared.given.Given.{Given}
use Rattle.node_replies.specs.Given.{IsGiven}
use Rattle.node_replies.specs.declared.order.WalletOrder.{WalletOrder}
use Rattle.node_replies.specs.declared.order.WatcherOrder.{WatcherOrder}
use Rattle.node_replies.specs.declared.order.OperatorOrder.{OperatorOrder}
use Rattle.node_replies.specs.declared.order.NodeOrder.{NodeOrder}
use Rattle.world_trace.specs.declared.event.LineEvent.{LineEvent}
use Rattle.world_trace.specs.Events.{IsWatch}
use Rattle.world_trace.specs.Orders.{TellsGiven, TellsFinished, bound_event, is_offering, IsNodeEvent}
use Rattle.world_trace.specs.Told.{wallet_told, watcher_told, operator_told, IsTold}
use Rattle.world_trace.proofs.BodyLaws.{found-signed}

-- what holds of each answer and of each refusal holds of what is given for either
pub answered-all : {A E : Type 0} (P : Response → Type 0) (cause : E → List ℕ) (give : A → Response)
    → ((answer : A) → P (give answer)) → ((why : E) → P (refused (cause why)))
    → (result : Result A E) → P (answered cause give result)
answered-all P cause give good bad (Ok answer) = good answer
answered-all P cause give good bad (Err why) = bad why

-- ---- what is given, with the event that is told by it

-- the event is the one that the answer and the bytes that are made tell
abbrev IsToldBy : ℕ → NodeOrder → (Reply → List ℕ → LineEvent) → Response → Type 0
IsToldBy n order told response = IsNodeEvent (event_of n order response) (told response.reply response.made)

-- what tells the event of what is given tells that of what is given in memory
abbrev Carries : ℕ → NodeOrder → (Reply → List ℕ → LineEvent) → Response → Type 0
Carries n order told response = (given : Given) (event : LineEvent) → event ≡ told given.reply given.made
    → IsGiven response given → IsNodeEvent (event_of n order response) event

carried : (n : ℕ) (order : NodeOrder) (told : Reply → List ℕ → LineEvent) (response : Response)
    → IsToldBy n order told response → Carries n order told response
carried n order told response by given event is given_is =
    let same : event ≡ told response.reply response.made =
    is ∙ (λ i. told (given_is.reply i) (given_is.made i)) in
    subst (λ (e : LineEvent). IsNodeEvent (event_of n order response) e) (sym same) by

module _ (dig : List ℕ → List ℕ) (log : List RootCall) (n : ℕ) where
  -- a transfer that is signed is found in the bytes that are made
  sends-told : (wallet : WalletRecords) (coin : ℕ) (to : Owner) (last : Option ℕ)
      → IsToldBy n (NodeOrder.Wallet (WalletOrder.Send coin to last)) (wallet_told n (WalletOrder.Send coin to last))
      (answered wallet_cause on_sent (send_effect dig wallet log coin to last).answer)
  unfolding event_of
  sends-told wallet coin to last = by (send_ends dig wallet log coin to last)
    where
      ToldBy : WalletEffect (Result Sent WalletRefusal) → Type 0
      ToldBy effect =
          IsToldBy n (NodeOrder.Wallet (WalletOrder.Send coin to last))
          (wallet_told n (WalletOrder.Send coin to last)) (answered wallet_cause on_sent effect.answer)

      by : SendEnds dig wallet log coin to last (send_effect dig wallet log coin to last)
          → ToldBy (send_effect dig wallet log coin to last)
      by (Refused why is) = subst ToldBy (sym is) (λ tests rules calls. refl)
      by (Sends tip held is) =
          subst ToldBy (sym is)
          (λ tests rules calls.
          ap (bound_event n) (found-signed (who wallet).tag coin tip to last (secret_of (who wallet)) (used wallet)))

  -- what is answered tells the same event, whatever the answer
  plain : {A E : Type 0} (order : NodeOrder) (told : Reply → List ℕ → LineEvent) (cause : E → List ℕ)
      (give : A → Response) → ((answer : A) → IsToldBy n order told (give answer))
      → ((why : E) → IsToldBy n order told (refused (cause why)))
      → (result : Result A E) → Carries n order told (answered cause give result)
  plain order told cause give good bad result =
      carried n order told (answered cause give result)
      (answered-all (IsToldBy n order told) cause give good bad result)

  watches : (order : NodeOrder) (response : Response) (calls : List RootCall) → response.offers ≡ calls
      → event_of n order response ≡ Watches n calls
      → (given : Given) (event : LineEvent) → IsWatch n given.offers.items event → IsGiven response given
      → IsNodeEvent (event_of n order response) event
  watches order response calls offers_is event_is given event watch given_is =
      subst (λ (e : Event). IsNodeEvent e event) (sym event_is)
      (λ tests rules log. subst (λ (cs : List RootCall). IsWatch n cs event) (given_is.offers ∙ offers_is) watch)

  wallet-tells : (wallet : WalletRecords) (order : WalletOrder) (given : Given) (event : LineEvent)
      → IsTold n (NodeOrder.Wallet order) given event → IsGiven (wallet_does dig log wallet order).response given
      → IsNodeEvent (event_of n (NodeOrder.Wallet order) (wallet_does dig log wallet order).response) event
  unfolding wallet_does event_of
  wallet-tells wallet (WalletOrder.Accept bundle) =
      plain (NodeOrder.Wallet (WalletOrder.Accept bundle))
      (wallet_told n (WalletOrder.Accept bundle)) wallet_cause on_accepted
      (λ taken tests rules calls. refl) (λ why tests rules calls. refl) (accept_effect dig wallet log bundle).answer
  wallet-tells wallet (WalletOrder.Send coin to last) =
      carried n (NodeOrder.Wallet (WalletOrder.Send coin to last))
      (wallet_told n (WalletOrder.Send coin to last))
      (answered wallet_cause on_sent (send_effect dig wallet log coin to last).answer)
      (sends-told wallet coin to last)
  wallet-tells wallet (WalletOrder.Again coin) =
      plain (NodeOrder.Wallet (WalletOrder.Again coin))
      (wallet_told n (WalletOrder.Again coin)) wallet_cause on_sent
      (λ sent tests rules calls. refl) (λ why tests rules calls. refl) (again_answer wallet coin)
  wallet-tells wallet (WalletOrder.Leave coin) =
      plain (NodeOrder.Wallet (WalletOrder.Leave coin))
      (wallet_told n (WalletOrder.Leave coin)) wallet_cause on_leaving
      (λ call tests rules calls. refl) (λ why tests rules calls. refl) (leave_effect dig wallet log coin).answer
  wallet-tells wallet (WalletOrder.Reclaim bundle) =
      plain (NodeOrder.Wallet (WalletOrder.Reclaim bundle))
      (wallet_told n (WalletOrder.Reclaim bundle)) wallet_cause on_reclaimed
      (λ taken tests rules calls. refl) (λ why tests rules calls. refl) (reclaim_effect dig wallet log bundle).answer
  wallet-tells wallet WalletOrder.Migrate =
      plain (NodeOrder.Wallet WalletOrder.Migrate)
      (wallet_told n WalletOrder.Migrate) wallet_cause on_migrated
      (λ done tests rules calls. refl) (λ why tests rules calls. refl) (migrate_effect wallet).answer
  wallet-tells wallet WalletOrder.Watch =
      watches (NodeOrder.Wallet WalletOrder.Watch) (wallet_does dig log wallet WalletOrder.Watch).response
      (wallet_watch dig wallet log) refl refl

  watcher-tells : (notes : List (List ℕ)) (order : WatcherOrder) (given : Given) (event : LineEvent)
      → IsTold n (NodeOrder.Watcher order) given event → IsGiven (watcher_does dig log notes order).response given
      → IsNodeEvent (event_of n (NodeOrder.Watcher order) (watcher_does dig log notes order).response) event
  unfolding watcher_does event_of
  watcher-tells notes (WatcherOrder.Guard bundle) =
      plain (NodeOrder.Watcher (WatcherOrder.Guard bundle))
      (λ reply made. watcher_told n (WatcherOrder.Guard bundle) reply) watcher_cause on_guarded
      (λ taken tests rules calls. refl) (λ why tests rules calls. refl) (guard_effect dig notes log bundle).answer
  watcher-tells notes (WatcherOrder.Release coin tip) =
      plain (NodeOrder.Watcher (WatcherOrder.Release coin tip))
      (λ reply made. watcher_told n (WatcherOrder.Release coin tip) reply) watcher_cause
      on_released
      (λ done tests rules calls. refl) (λ why tests rules calls. refl) (release_effect dig notes coin tip).answer
  watcher-tells notes WatcherOrder.Watch =
      watches (NodeOrder.Watcher WatcherOrder.Watch) (watcher_does dig log notes WatcherOrder.Watch).response
      (watcher_watch dig notes log) refl refl

  operator-tells : (notes : List (List ℕ)) (order : OperatorOrder) (given : Given) (event : LineEvent)
      → IsTold n (NodeOrder.Operator order) given event
      → IsGiven (operator_does dig log notes order).response given
      → IsNodeEvent (event_of n (NodeOrder.Operator order) (operator_does dig log notes order).response) event
  unfolding operator_does event_of
  operator-tells notes (OperatorOrder.Offer transfer) =
      plain (NodeOrder.Operator (OperatorOrder.Offer transfer))
      (λ reply made. operator_told n (OperatorOrder.Offer transfer) reply) offer_cause on_pooled
      (λ coin tests rules calls. refl) (λ why tests rules calls. refl) (offer_effect dig notes log transfer).answer
  operator-tells notes (OperatorOrder.Lay coin leaf) =
      plain (NodeOrder.Operator (OperatorOrder.Lay coin leaf))
      (λ reply made. operator_told n (OperatorOrder.Lay coin leaf) reply) lay_cause (on_laid coin)
      (λ done tests rules calls. refl) (λ why tests rules calls. refl) (lay_effect coin leaf).answer
  operator-tells notes OperatorOrder.Seal =
      plain (NodeOrder.Operator OperatorOrder.Seal)
      (λ reply made. operator_told n OperatorOrder.Seal reply) seal_cause on_sealed
      (λ sealed tests rules calls. refl) (λ why tests rules calls. refl) (seal_effect dig notes).answer
  operator-tells notes (OperatorOrder.Bundle coin tip) =
      plain (NodeOrder.Operator (OperatorOrder.Bundle coin tip))
      (λ reply made. operator_told n (OperatorOrder.Bundle coin tip) reply) prove_cause on_bundled
      (λ bundle tests rules calls. refl) (λ why tests rules calls. refl) (bundle_answer dig notes log coin tip)
  operator-tells notes (OperatorOrder.Prove coin block) =
      plain (NodeOrder.Operator (OperatorOrder.Prove coin block))
      (λ reply made. operator_told n (OperatorOrder.Prove coin block) reply) prove_cause on_proved
      (λ opening tests rules calls. refl) (λ why tests rules calls. refl) (prove_answer dig notes log coin block)
  operator-tells notes (OperatorOrder.Absences coin after last) =
      plain (NodeOrder.Operator (OperatorOrder.Absences coin after last))
      (λ reply made. operator_told n (OperatorOrder.Absences coin after last) reply) prove_cause on_bundled
      (λ bundle tests rules calls. refl) (λ why tests rules calls. refl)
      (absences_answer dig notes log coin after last)

  node-tells : (node : Node) (order : NodeOrder) (given : Given) (event : LineEvent) → IsTold n order given event
      → IsGiven (node_does dig log node order).response given
      → IsNodeEvent (event_of n order (node_does dig log node order).response) event
  unfolding event_of
  node-tells node (NodeOrder.Wallet order) = wallet-tells (wallet_of node) order
  node-tells node (NodeOrder.Watcher order) = watcher-tells node.notes order
  node-tells node (NodeOrder.Operator order) = operator-tells node.notes order
  node-tells node NodeOrder.Open = λ given event is given_is tests rules calls. is

-- what is told is the event of what the order gave
pub told_tells : (n : ℕ) (order : NodeOrder) (given : Given) (event : LineEvent) → IsTold n order given event
    → TellsGiven n order given event
told_tells n order given event told dig log node given_is = node-tells dig log n node order given event told given_is

-- ---- no order of a node that is up is answered that it is down

abbrev IsUp : Response → Type 0
IsUp response = response.reply ≡ Reply.Down → ⊥

module _ (dig : List ℕ → List ℕ) (log : List RootCall) where
  wallet-up : (wallet : WalletRecords) (order : WalletOrder) → IsUp (wallet_does dig log wallet order).response
  unfolding wallet_does
  wallet-up wallet (WalletOrder.Accept bundle) =
      answered-all IsUp wallet_cause on_accepted (λ taken wrong. cc wrong) (λ why wrong. cc wrong)
      (accept_effect dig wallet log bundle).answer
  wallet-up wallet (WalletOrder.Send coin to last) =
      answered-all IsUp wallet_cause on_sent (λ sent wrong. cc wrong) (λ why wrong. cc wrong)
      (send_effect dig wallet log coin to last).answer
  wallet-up wallet (WalletOrder.Again coin) =
      answered-all IsUp wallet_cause on_sent (λ sent wrong. cc wrong) (λ why wrong. cc wrong)
      (again_answer wallet coin)
  wallet-up wallet (WalletOrder.Leave coin) =
      answered-all IsUp wallet_cause on_leaving (λ call wrong. cc wrong) (λ why wrong. cc wrong)
      (leave_effect dig wallet log coin).answer
  wallet-up wallet (WalletOrder.Reclaim bundle) =
      answered-all IsUp wallet_cause on_reclaimed (λ taken wrong. cc wrong) (λ why wrong. cc wrong)
      (reclaim_effect dig wallet log bundle).answer
  wallet-up wallet WalletOrder.Migrate =
      answered-all IsUp wallet_cause on_migrated (λ done wrong. cc wrong) (λ why wrong. cc wrong)
      (migrate_effect wallet).answer
  wallet-up wallet WalletOrder.Watch = λ wrong. cc wrong

  watcher-up : (notes : List (List ℕ)) (order : WatcherOrder) → IsUp (watcher_does dig log notes order).response
  unfolding watcher_does
  watcher-up notes (WatcherOrder.Guard bundle) =
      answered-all IsUp watcher_cause on_guarded (λ taken wrong. cc wrong) (λ why wrong. cc wrong)
      (guard_effect dig notes log bundle).answer
  watcher-up notes (WatcherOrder.Release coin tip) =
      answered-all IsUp watcher_cause on_released (λ done wrong. cc wrong) (λ why wrong. cc wrong)
      (release_effect dig notes coin tip).answer
  watcher-up notes WatcherOrder.Watch = λ wrong. cc wrong

  operator-up : (notes : List (List ℕ)) (order : OperatorOrder)
      → IsUp (operator_does dig log notes order).response
  unfolding operator_does
  operator-up notes (OperatorOrder.Offer transfer) =
      answered-all IsUp offer_cause on_pooled (λ coin wrong. cc wrong) (λ why wrong. cc wrong)
      (offer_effect dig notes log transfer).answer
  operator-up notes (OperatorOrder.Lay coin leaf) =
      answered-all IsUp lay_cause (on_laid coin) (λ done wrong. cc wrong) (λ why wrong. cc wrong)
      (lay_effect coin leaf).answer
  operator-up notes OperatorOrder.Seal =
      answered-all IsUp seal_cause on_sealed (λ sealed wrong. cc wrong) (λ why wrong. cc wrong)
      (seal_effect dig notes).answer
  operator-up notes (OperatorOrder.Bundle coin tip) =
      answered-all IsUp prove_cause on_bundled (λ bundle wrong. cc wrong) (λ why wrong. cc wrong)
      (bundle_answer dig notes log coin tip)
  operator-up notes (OperatorOrder.Prove coin block) =
      answered-all IsUp prove_cause on_proved (λ opening wrong. cc wrong) (λ why wrong. cc wrong)
      (prove_answer dig notes log coin block)
  operator-up notes (OperatorOrder.Absences coin after last) =
      answered-all IsUp prove_cause on_bundled (λ bundle wrong. cc wrong) (λ why wrong. cc wrong)
      (absences_answer dig notes log coin after last)

  opening-up : (node : Node) (up : Bool) → IsUp (on_open node up)
  opening-up node true wrong = cc wrong
  opening-up node false wrong = cc wrong

  node-up : (node : Node) (order : NodeOrder) → IsUp (node_does dig log node order).response
  node-up node (NodeOrder.Wallet order) = wallet-up (wallet_of node) order
  node-up node (NodeOrder.Watcher order) = watcher-up node.notes order
  node-up node (NodeOrder.Operator order) = operator-up node.notes order
  node-up node NodeOrder.Open = opening-up node node.is_up

-- so what a node that is down answers is that of no order that it did
pub down_tells : (n : ℕ) (order : NodeOrder) (given : Given) (event : LineEvent) → given.reply ≡ Reply.Down
    → TellsGiven n order given event
down_tells n order given event down dig log node given_is =
    absurd (node-up dig log node order (sym given_is.reply ∙ down))

-- ---- before a crash

-- an order that leaves nothing but offers
pub offering_tells : (n : ℕ) (order : NodeOrder) (given : Given) → is_offering order ≡ true
    → TellsFinished n order given (LineEvent.Other n)
unfolding wallet_does watcher_does operator_does event_of
offering_tells n (NodeOrder.Wallet WalletOrder.Watch) given is dig log node given_is = λ tests rules calls. refl
offering_tells n (NodeOrder.Watcher WatcherOrder.Watch) given is dig log node given_is = λ tests rules calls. refl
offering_tells n (NodeOrder.Operator OperatorOrder.Seal) given is dig log node given_is =
    answered-all
    (λ response. IsNodeEvent (without_offers n (event_of n (NodeOrder.Operator OperatorOrder.Seal) response))
    (LineEvent.Other n)) seal_cause on_sealed
    (λ sealed tests rules calls. refl) (λ why tests rules calls. refl) (seal_effect dig node.notes).answer
offering_tells n order given is dig log node given_is = absurd (false≢true is)

-- any other order leaves the same event, or offers that are gone
module _ (dig : List ℕ → List ℕ) (log : List RootCall) (n : ℕ) (event : LineEvent) where
  abbrev Stays : NodeOrder → Response → Type 0
  Stays order response = let done = event_of n order response in
      IsNodeEvent done event → IsNodeEvent (without_offers n done) event

  wallet-stays : (wallet : WalletRecords) (order : WalletOrder) → is_offering (NodeOrder.Wallet order) ≡ false
      → Stays (NodeOrder.Wallet order) (wallet_does dig log wallet order).response
  unfolding wallet_does event_of
  wallet-stays wallet (WalletOrder.Accept bundle) some =
      answered-all (Stays (NodeOrder.Wallet (WalletOrder.Accept bundle))) wallet_cause on_accepted
      (λ taken is. is) (λ why is. is) (accept_effect dig wallet log bundle).answer
  wallet-stays wallet (WalletOrder.Send coin to last) some =
      answered-all (Stays (NodeOrder.Wallet (WalletOrder.Send coin to last))) wallet_cause on_sent
      (λ sent is. is) (λ why is. is) (send_effect dig wallet log coin to last).answer
  wallet-stays wallet (WalletOrder.Again coin) some =
      answered-all (Stays (NodeOrder.Wallet (WalletOrder.Again coin))) wallet_cause on_sent
      (λ sent is. is) (λ why is. is) (again_answer wallet coin)
  wallet-stays wallet (WalletOrder.Leave coin) some =
      answered-all (Stays (NodeOrder.Wallet (WalletOrder.Leave coin))) wallet_cause on_leaving
      (λ call is. is) (λ why is. is) (leave_effect dig wallet log coin).answer
  wallet-stays wallet (WalletOrder.Reclaim bundle) some =
      answered-all (Stays (NodeOrder.Wallet (WalletOrder.Reclaim bundle))) wallet_cause on_reclaimed
      (λ taken is. is) (λ why is. is) (reclaim_effect dig wallet log bundle).answer
  wallet-stays wallet WalletOrder.Migrate some =
      answered-all (Stays (NodeOrder.Wallet WalletOrder.Migrate)) wallet_cause on_migrated
      (λ done is. is) (λ why is. is) (migrate_effect wallet).answer
  wallet-stays wallet WalletOrder.Watch none = absurd (false≢true (sym none))

  watcher-stays : (notes : List (List ℕ)) (order : WatcherOrder) → is_offering (NodeOrder.Watcher order) ≡ false
      → Stays (NodeOrder.Watcher order) (watcher_does dig log notes order).response
  unfolding watcher_does event_of
  watcher-stays notes (WatcherOrder.Guard bundle) some =
      answered-all (Stays (NodeOrder.Watcher (WatcherOrder.Guard bundle))) watcher_cause on_guarded
      (λ taken is. is) (λ why is. is) (guard_effect dig notes log bundle).answer
  watcher-stays notes (WatcherOrder.Release coin tip) some =
      answered-all (Stays (NodeOrder.Watcher (WatcherOrder.Release coin tip))) watcher_cause on_released
      (λ done is. is) (λ why is. is) (release_effect dig notes coin tip).answer
  watcher-stays notes WatcherOrder.Watch none = absurd (false≢true (sym none))

  operator-stays : (notes : List (List ℕ)) (order : OperatorOrder)
      → is_offering (NodeOrder.Operator order) ≡ false
      → Stays (NodeOrder.Operator order) (operator_does dig log notes order).response
  unfolding operator_does event_of
  operator-stays notes (OperatorOrder.Offer transfer) some =
      answered-all (Stays (NodeOrder.Operator (OperatorOrder.Offer transfer))) offer_cause on_pooled
      (λ coin is. is) (λ why is. is) (offer_effect dig notes log transfer).answer
  operator-stays notes (OperatorOrder.Lay coin leaf) some =
      answered-all (Stays (NodeOrder.Operator (OperatorOrder.Lay coin leaf))) lay_cause (on_laid coin)
      (λ done is. is) (λ why is. is) (lay_effect coin leaf).answer
  operator-stays notes OperatorOrder.Seal none = absurd (false≢true (sym none))
  operator-stays notes (OperatorOrder.Bundle coin tip) some =
      answered-all (Stays (NodeOrder.Operator (OperatorOrder.Bundle coin tip))) prove_cause on_bundled
      (λ bundle is. is) (λ why is. is) (bundle_answer dig notes log coin tip)
  operator-stays notes (OperatorOrder.Prove coin block) some =
      answered-all (Stays (NodeOrder.Operator (OperatorOrder.Prove coin block))) prove_cause on_proved
      (λ opening is. is) (λ why is. is) (prove_answer dig notes log coin block)
  operator-stays notes (OperatorOrder.Absences coin after last) some =
      answered-all (Stays (NodeOrder.Operator (OperatorOrder.Absences coin after last))) prove_cause on_bundled
      (λ bundle is. is) (λ why is. is) (absences_answer dig notes log coin after last)

  node-stays : (node : Node) (order : NodeOrder) → is_offering order ≡ false
      → Stays order (node_does dig log node order).response
  unfolding event_of
  node-stays node (NodeOrder.Wallet order) some = wallet-stays (wallet_of node) order some
  node-stays node (NodeOrder.Watcher order) some = watcher-stays node.notes order some
  node-stays node (NodeOrder.Operator order) some = operator-stays node.notes order some
  node-stays node NodeOrder.Open some = λ is. is

pub finished_tells : (n : ℕ) (order : NodeOrder) (given : Given) (event : LineEvent) → is_offering order ≡ false
    → TellsGiven n order given event → TellsFinished n order given event
finished_tells n order given event some tells dig log node given_is =
    node-stays dig log n event node order some (tells dig log node given_is)
