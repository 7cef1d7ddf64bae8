-- Each event of a run is legal after those before it, but for those that are left: what a wallet does with its coins.
-- Where these are legal too, all events of every run are.
use Rattle.world_laws.proofs.Basics.{◌≡◌, ℕ, true, List, [], ◌∷◌, Some, None, Ok, refl, sym, subst, slice_get, arith, rules, common_steps}
use Rattle.world_laws.proofs.CoinWords.{RootCall, Tests, Rules, tests_by, rules_of}
use Rattle.world_laws.proofs.NodeWords.{Accepted, who_is, guard_effect, NodeOrder}
use Rattle.world_laws.proofs.WorldWords.{Line, Event, Accepts, Binds, TakesBack, Idle, log_of, wallet_owner, accepted, Node, World, wallet_of, is_wallet_role, is_watcher_role, Deed, bundle_read, without_offers, Run, events_of, KeptWorld, OrderEnds, Leaving, Watching, Guarding, GuardWatching, Sealing, order-ends, begun, said, NewWallet, Act, Adds, Enters, Orders, End, Whole, Crashed, Kept, Lost, end_of, event_after, deed_at, done, has_order, IsActIn, line_effect, begun, rules-stay, IsRun, LegalAccept, LegalGuard, LegalBinding, LegalReclaim, IsLegalEvent, IsLegal}
use Rattle.world_laws.proofs.Acts.{IsNext, over_events}
use Rattle.world_laws.proofs.Keeps.{is-watcher, own-tag, watcher-tag}
use Rattle.world_laws.proofs.GuardsShown.{AreShown}
use Rattle.world_laws.proofs.AcceptsShown.{accepted_in}
use Rattle.world_laws.proofs.NodeNotes.{AreNoted, noted-at, runs-noted}
use Rattle.world_laws.proofs.LegalWatches.{legal-watched}
use Rattle.world_laws.proofs.LegalLeaves.{legal-left, legal-wallet-watched}
use Rattle.world_laws.proofs.Handed.{handed-history}
use Rattle.world_laws.proofs.LegalCalls.{IsBehind, is-behind, legal-entered, legal-declared}

-- what is left to be shown of an event: that those of a wallet's coins are legal, but for its leaves and its watches
abbrev pub IsLeft : Tests → Rules → List Event → Event → Type 0
IsLeft tests rules events (Accepts w bundle) = LegalAccept tests rules events w bundle
IsLeft tests rules events (Binds w body) = LegalBinding events w body
IsLeft tests rules events (TakesBack w q bundle) = LegalReclaim tests events w q bundle
IsLeft tests rules events event = Unit {0}

-- the event is legal where what is left of it is shown
abbrev pub IsLegalWhere : Tests → Rules → List Event → Event → Type 0
IsLegalWhere tests rules events event = IsLeft tests rules events event → IsLegalEvent tests rules events event

-- ---- nodes

-- a bundle that a node takes as a watcher is a history, where it is no wallet
pub legal-guarded : (dig : List ℕ → List ℕ) (rules : Rules) (events : List Event) (log : List RootCall)
    → log ≡ log_of events → (n : ℕ) (notes : List (List ℕ)) → wallet_owner events n ≡ None
    → (who_is notes).tag ≡ rules.tag → (bytes : List ℕ) (taken : Accepted)
    → (guard_effect dig notes log bytes).answer ≡ Ok taken
    → LegalGuard (tests_by dig) rules events n (bundle_read bytes)
unfolding guard_effect
legal-guarded dig rules events log log_is n notes owner tag_is bytes taken is =
    grind (arith, common_steps, handed-history)

module _ (dig : List ℕ → List ℕ) (events : List Event) (world : World) (behind : IsBehind events world)
    (kept : KeptWorld dig events world) (noted : AreNoted dig events world) where
  abbrev P : Event → Type 0
  P event = IsLegalWhere (tests_by dig) (rules_of world.chain) events event

  own-shown : (n : ℕ) (node : Node) → slice_get world.nodes n ≡ Some node → is_wallet_role node.role ≡ true
      → AreShown world.chain.tag (accepted events n) (accepted_in dig node.notes)
  unfolding said
  own-shown n node at role = (noted-at dig events world noted n node at).accepts role

  -- a bundle that a watcher takes is a history
  node-guarded : (n : ℕ) (node : Node) (bytes : List ℕ) (taken : Accepted) → slice_get world.nodes n ≡ Some node
      → is_watcher_role node.role ≡ true
      → (guard_effect dig node.notes world.chain.log bytes).answer ≡ Ok taken
      → LegalGuard (tests_by dig) (rules_of world.chain) events n (bundle_read bytes)
  node-guarded n node bytes taken node_is role is =
      legal-guarded dig (rules_of world.chain) events world.chain.log behind.log n node.notes
      (is-watcher events world behind.keeps n node node_is role).owner
      (watcher-tag events world behind.keeps n node node_is role) bytes taken is

  -- ---- orders

  -- a watch is legal: a wallet's is of what it holds, a watcher's of its guards, and the operator has none
  legal-ends : (n : ℕ) (node : Node) → slice_get world.nodes n ≡ Some node → (order : NodeOrder)
      → has_order order node.role ≡ true → {event : Event} → {calls : List RootCall}
      → OrderEnds dig world.chain.log n node order event calls → P event
  legal-ends n node at order role (Leaving coin call made) = λ left.
      legal-left dig (rules_of world.chain) events world.chain.log behind.log n (wallet_of node)
      ((kept.nodes n node at).wallet role) (own-tag events world behind.keeps n node at role)
      (own-shown n node at role) coin call made
  legal-ends n node at order role Watching = λ left.
      legal-wallet-watched dig (rules_of world.chain) events world.chain.log behind.log n (wallet_of node)
      ((kept.nodes n node at).wallet role) (own-tag events world behind.keeps n node at role)
      (own-shown n node at role)
  legal-ends n node at order role (Guarding bytes taken made) = λ left.
      node-guarded n node bytes taken at role made
  legal-ends n node at order role GuardWatching = λ left.
      legal-watched dig events world kept behind.keeps noted n node at role
  legal-ends n node at order role Sealing = λ left. refl
  legal-ends n node at order role ends = λ left. left

  -- in a cut too
  legal-without : (n : ℕ) (event : Event) → P event → P (without_offers n event)
  legal-without n event legal = grind (arith, common_steps)

  legal-end : (n : ℕ) (deed : Deed) → P deed.gives.event → (end : End) → P (event_after n deed end)
  legal-end n deed legal Whole = legal
  legal-end n deed legal Lost = λ left. tt
  legal-end n deed legal Crashed = legal-without n deed.gives.event legal
  legal-end n deed legal Kept = legal-without n deed.gives.event legal

  -- ---- each act

  legal-act : (act : Act) → IsActIn world act → IsLegal (tests_by dig) (rules_of world.chain) events
      → P (done dig world act).event
  unfolding done
  legal-act (Adds name (NewWallet who)) known legal = λ left. legal-declared events world behind name who known.1
  legal-act (Enters origin call) known legal = λ left. legal-entered events world behind dig call origin known legal
  legal-act (Orders place order cut) known legal =
      let deed = deed_at dig world place order in
      legal-end place.number deed
      (legal-ends place.number place.node known.there order known.role
      (order-ends dig world.chain.log place.number place.node order)) (end_of cut place.node order deed)
  legal-act act known legal = λ left. tt

-- ---- every run

-- what is left of the events of every run
abbrev pub LeftAreLegal : (List ℕ → List ℕ) → Type 0
LeftAreLegal dig = (lines : List Line) (run : Run) (world : World) (line : Line) (act : Act)
    → IsNext dig lines run world line act
    → IsLeft (tests_by dig) (rules_of world.chain) (events_of run.entries) (done dig world act).event

abbrev AreLegal : (List ℕ → List ℕ) → List Event → World → Type 0
AreLegal dig events world = IsLegal (tests_by dig) (rules_of world.chain) events

first-legal : (dig : List ℕ → List ℕ) (tag operator most : ℕ) → AreLegal dig (Idle ∷ []) (begun tag operator most).world
unfolding IsLegal
first-legal dig tag operator most = (tt, tt)

-- each event of a run is legal after those before it, which are, where what is left of it is shown
next-legal : (dig : List ℕ → List ℕ) → LeftAreLegal dig → (lines : List Line) (run : Run) (world : World) (line : Line)
    (act : Act) → IsNext dig lines run world line act → AreLegal dig (events_of run.entries) world
    → AreLegal dig ((done dig world act).event ∷ events_of run.entries) (line_effect dig world act).world
unfolding IsLegal
next-legal dig left lines run world line act next legal =
    subst (λ (rules : Rules). IsLegal (tests_by dig) rules ((done dig world act).event ∷ events_of run.entries))
    (sym (rules-stay dig world act)) (
      legal-act dig (events_of run.entries) world (is-behind dig lines run world next.run_is) next.kept
          (runs-noted dig lines run world next.run_is) act next.known legal
          (left lines run world line act next),
      legal,
    )

-- where what is left is legal, all events of every run are
pub runs-are-legal : (dig : List ℕ → List ℕ) → LeftAreLegal dig → (lines : List Line) (run : Run) (world : World)
    → IsRun dig lines run world → IsLegal (tests_by dig) (rules_of world.chain) (events_of run.entries)
runs-are-legal dig left =
    over_events dig (AreLegal dig) (λ tag operator most fits. first-legal dig tag operator most) (next-legal dig left)
