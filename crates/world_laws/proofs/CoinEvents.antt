-- In every run, what wallets do with their coins is legal: each accept, each transfer that a leaf binds, and each that
-- is taken back, in cuts too. It is what was left to be shown, so all events of every run are legal.
use Rattle.world_laws.proofs.Basics.{◌≡◌, ℕ, true, List, Some, slice_get, arith, common_steps}
use Rattle.world_laws.proofs.CoinWords.{RootCall, tests_by, rules_of}
use Rattle.world_laws.proofs.NodeWords.{NodeOrder}
use Rattle.world_laws.proofs.WorldWords.{Line, Event, Node, World, wallet_of, Deed, without_offers, Run, events_of, IsFitOrder, KeptWorld, few-blocks, OrderEnds, Accepting, Binding, TakingBack, order-ends, NewWallet, Act, Adds, Enters, Orders, End, end_of, event_after, deed_at, done, has_order, IsActIn, IsFitAct, IsRun, IsLegal}
use Rattle.world_laws.proofs.Keeps.{own-tag}
use Rattle.world_laws.proofs.LegalCalls.{IsBehind, is-behind}
use Rattle.world_laws.proofs.LegalEvents.{IsLeft, LeftAreLegal, runs-are-legal}
use Rattle.world_laws.proofs.LegalCoins.{legal-accepted, legal-bound, legal-reclaimed}
use Rattle.world_laws.proofs.NodeNotes.{AreNoted, noted-at, runs-noted}

module _ (dig : List ℕ → List ℕ) (events : List Event) (world : World) (behind : IsBehind events world)
    (kept : KeptWorld dig events world) (noted : AreNoted dig events world) where
  abbrev P : Event → Type 0
  P event = IsLeft (tests_by dig) (rules_of world.chain) events event

  coin-ends : (n : ℕ) (node : Node) → slice_get world.nodes n ≡ Some node → (order : NodeOrder)
      → has_order order node.role ≡ true → IsFitOrder order → {event : Event} → {calls : List RootCall}
      → OrderEnds dig world.chain.log n node order event calls → P event
  coin-ends n node at order role fit (Accepting bytes taken made) =
      legal-accepted dig (rules_of world.chain) events world.chain.log behind.log n (wallet_of node)
      ((kept.nodes n node at).wallet role) (own-tag events world behind.keeps n node at role)
      ((noted-at dig events world noted n node at).left role).left (few-blocks dig events world kept) bytes taken made
  coin-ends n node at order role fit (Binding coin to last sent made) =
      legal-bound dig (rules_of world.chain) events world.chain.log behind.log n (wallet_of node)
      ((kept.nodes n node at).wallet role) (own-tag events world behind.keeps n node at role)
      ((noted-at dig events world noted n node at).left role).left (few-blocks dig events world kept) coin to last sent
      fit.0 fit.1.is fit.2 made
  coin-ends n node at order role fit (TakingBack bytes taken made) =
      legal-reclaimed dig (rules_of world.chain) events world.chain.log behind.log n (wallet_of node)
      ((kept.nodes n node at).wallet role) (own-tag events world behind.keeps n node at role)
      ((noted-at dig events world noted n node at).left role).left (few-blocks dig events world kept) bytes taken made
  coin-ends n node at order role fit ends = tt

  -- in a cut too
  without-coins : (n : ℕ) (event : Event) → P event → P (without_offers n event)
  without-coins n event legal = grind (arith, common_steps)

  end-coins : (n : ℕ) (deed : Deed) → P deed.gives.event → (end : End) → P (event_after n deed end)
  end-coins n deed legal end = grind (arith, common_steps, without-coins)

  act-coins : (act : Act) → IsActIn world act → IsFitAct act → P (done dig world act).event
  unfolding done
  act-coins (Adds name (NewWallet who)) known fit = tt
  act-coins (Enters origin call) known fit = grind (arith, common_steps)
  act-coins (Orders place order cut) known fit =
      let deed = deed_at dig world place order in
      end-coins place.number deed
      (coin-ends place.number place.node known.there order known.role fit
      (order-ends dig world.chain.log place.number place.node order)) (end_of cut place.node order deed)
  act-coins act known fit = tt

-- what was left of the events of every run is legal
pub left-are-legal : (dig : List ℕ → List ℕ) → LeftAreLegal dig
left-are-legal dig lines run world line act next =
    act-coins dig (events_of run.entries) world (is-behind dig lines run world next.run_is) next.kept
    (runs-noted dig lines run world next.run_is) act next.known next.fit

-- so all events of every run are legal
pub runs-legal : (dig : List ℕ → List ℕ) (lines : List Line) (run : Run) (world : World)
    → IsRun dig lines run world → IsLegal (tests_by dig) (rules_of world.chain) (events_of run.entries)
runs-legal dig = runs-are-legal dig (left-are-legal dig)
