-- In every run each event is of the chain.
use Rattle.std.proofs.Common.{◌≡◌, ℕ, true, List, [], ◌∷◌, Some, sym, ◌∙◌, subst, slice_get, arith, rules}
use Rattle.std.specs.List.{AllByRecursion}
use Rattle.std.proofs.lemmas.List.Elements.{All-from_recursion}
use Rattle.std.proofs.lemmas.Grind.{common_steps}
use Rattle.plasma_tx.specs.declared.body.Body.{Body}
use Rattle.plasma_tx.specs.declared.call.RootCall.{RootCall}
use Rattle.plasma_tx.specs.Shown.{Tests, Rules, tests_by, rules_of}
use Rattle.schedule_text.specs.declared.line.Line.{Line}
use Rattle.node_replies.specs.declared.order.NodeOrder.{NodeOrder}
use Rattle.world_rules.specs.Events.{Event, Joins, Accepts, Guards, Binds, bound_by, taken_back, not_taken, signed_away_by, log_of}
use Rattle.world_rules.specs.World.{Node, World, wallet_of}
use Rattle.world_rules.specs.Deeds.{Deed}
use Rattle.world_rules.specs.Steps.{without_offers, Run, events_of}
use Rattle.world_rules.proofs.KeptNode.{IsFitOrder}
use Rattle.world_rules.proofs.KeptWorld.{KeptWorld, few-blocks}
use Rattle.world_rules.proofs.OrderEnds.{OrderEnds, Binding, order-ends}
use Rattle.world_rules.proofs.Said.{said}
use Rattle.world_rules.proofs.WalletSends.{words}
use Rattle.world_rules.specs.Acts.{NewWallet, Act, Adds, Enters, Orders, End, end_of, event_after, deed_at, done}
use Rattle.world_rules.specs.Evidence.{has_order, IsActIn}
use Rattle.world_rules.proofs.Fitting.{IsFitAct}
use Rattle.world_rules.proofs.Told.{rules-stay}
use Rattle.world_laws.specs.Headline.{IsRun}
use Rattle.world_laws.specs.Legal.{IsLegalEvent, IsLegal}
use Rattle.world_laws.proofs.Acts.{over_events}
use Rattle.world_laws.proofs.CoinEvents.{runs-legal}
use Rattle.world_laws.proofs.Keeps.{Keeps, own-tag, runs-keep}
use Rattle.tag_laws.specs.Worlds.{EventIsOwn, RunsAreOfTheChain, BoundAreOfTheChain}
use Rattle.tag_laws.proofs.Histories.{history-own}
use Rattle.tag_laws.proofs.Calls.{accepted_calls_are_of_the_chain}
use Rattle.tag_laws.proofs.Sent.{sent_are_of_the_chain}

-- what a leaf binds is of the tag
abbrev BindsOwn : List ℕ → Event → Type 0
BindsOwn tag (Binds w body) = body.tag ≡ tag
BindsOwn tag event = Unit {0}

-- ---- each line binds bodies of the chain

module _ (dig : List ℕ → List ℕ) (events : List Event) (world : World) (keeps : Keeps events world)
    (kept : KeptWorld dig events world) where
  abbrev P : Event → Type 0
  P event = BindsOwn world.chain.tag event

  binds-ends : (n : ℕ) (node : Node) → slice_get world.nodes n ≡ Some node → (order : NodeOrder)
      → has_order order node.role ≡ true → IsFitOrder order → {event : Event} → {calls : List RootCall}
      → OrderEnds dig world.chain.log n node order event calls → P event
  binds-ends n node at order role fit (Binding coin to last sent made) =
      let wallet = (kept.nodes n node at).wallet role in
      let given = sent_are_of_the_chain dig (wallet_of node) world.chain.log coin to last sent wallet.is
      (words dig (said events n) world.chain.log (wallet_of node) wallet (few-blocks dig events world kept))
      (record { coin_fits = fit.0; owner = fit.1.is; last_fits = fit.2 }) made in
      given.2.2.named ∙ own-tag events world keeps n node at role
  binds-ends n node at order role fit ends = tt

  -- in a cut too
  binds-without : (n : ℕ) (event : Event) → P event → P (without_offers n event)
  binds-without n event own = grind (arith, common_steps)

  binds-end : (n : ℕ) (deed : Deed) → P deed.gives.event → (end : End) → P (event_after n deed end)
  binds-end n deed own end = grind (arith, common_steps, binds-without)

  binds-act : (act : Act) → IsActIn world act → IsFitAct act → P (done dig world act).event
  unfolding done
  binds-act (Adds name (NewWallet who)) known fit = tt
  binds-act (Enters origin call) known fit = grind (arith, common_steps)
  binds-act (Orders place order cut) known fit =
      let deed = deed_at dig world place order in
      binds-end place.number deed
      (binds-ends place.number place.node known.there order known.role fit
      (order-ends dig world.chain.log place.number place.node order)) (end_of cut place.node order deed)
  binds-act act known fit = tt

-- ---- every run

abbrev BindOwn : List Event → World → Type 0
BindOwn events world = AllByRecursion (BindsOwn world.chain.tag) events

runs-bind : (dig : List ℕ → List ℕ) (lines : List Line) (run : Run) (world : World) → IsRun dig lines run world
    → BindOwn (events_of run.entries) world
runs-bind dig =
    over_events dig BindOwn (λ tag operator most fits. (tt, tt))
    (λ lines run world line act next own.
    subst (λ (rules : Rules). AllByRecursion (BindsOwn rules.tag) ((done dig world act).event ∷ events_of run.entries))
    (sym (rules-stay dig world act)) (
      binds-act dig (events_of run.entries) world (runs-keep dig lines run world next.run_is) next.kept act next.known
          next.fit,
      own,
    ))

-- a legal event is of the chain, where what it binds is
legal-own : (tests : Tests) (rules : Rules) (events : List Event) (event : Event)
    → IsLegalEvent tests rules events event → BindsOwn rules.tag event → EventIsOwn rules.tag event
legal-own tests rules events (Joins call) legal own =
    accepted_calls_are_of_the_chain tests rules (log_of events) call legal.accepted
legal-own tests rules events (Accepts w bundle) legal own =
    history-own tests rules (log_of events) bundle legal.links legal.history
legal-own tests rules events (Guards g bundle) legal own =
    history-own tests rules (log_of events) bundle legal.links legal.history
legal-own tests rules events (Binds w body) legal own = own
legal-own tests rules events event legal own = tt

all-own : (tests : Tests) (rules : Rules) (events : List Event) → IsLegal tests rules events
    → AllByRecursion (BindsOwn rules.tag) events → AllByRecursion (EventIsOwn rules.tag) events
unfolding IsLegal
all-own tests rules [] legal own = tt
all-own tests rules (event ∷ events) legal own =
    (legal-own tests rules events event legal.0 own.0, all-own tests rules events legal.1 own.1)

pub runs_are_of_the_chain : RunsAreOfTheChain
runs_are_of_the_chain dig lines run world run_is =
    All-from_recursion (EventIsOwn world.chain.tag) (events_of run.entries)
    (all-own (tests_by dig) (rules_of world.chain) (events_of run.entries) (runs-legal dig lines run world run_is)
    (runs-bind dig lines run world run_is))

-- ---- what leaves bind

abbrev HaveTag : List ℕ → List Body → Type 0
HaveTag tag bodies = AllByRecursion (λ body. body.tag ≡ tag) bodies

bound-own : (tag : List ℕ) (w : ℕ) (events : List Event) → AllByRecursion (BindsOwn tag) events
    → HaveTag tag (bound_by events w)
unfolding bound_by
bound-own tag w [] own = tt
bound-own tag w (Binds v body ∷ events) own = grind (arith, common_steps, bound-own tag w events own.1)
bound-own tag w (event ∷ events) own = bound-own tag w events own.1

not_taken-own : (tag : List ℕ) (taken : List ℕ) (bodies : List Body) → HaveTag tag bodies
    → HaveTag tag (not_taken taken bodies)
unfolding not_taken
not_taken-own tag taken [] all = tt
not_taken-own tag taken (body ∷ bodies) all = grind (arith, common_steps, not_taken-own tag taken bodies all.1)

pub bound_are_of_the_chain : BoundAreOfTheChain
bound_are_of_the_chain dig lines run world w run_is =
    let events = events_of run.entries in
    let tag = world.chain.tag in
    let bound = bound-own tag w events (runs-bind dig lines run world run_is) in (
      All-from_recursion (λ (b : Body). b.tag ≡ tag) (bound_by events w) bound,
      All-from_recursion (λ (b : Body). b.tag ≡ tag) (signed_away_by events w)
          (not_taken-own tag (taken_back events w) (bound_by events w) bound),
    )
