-- What a node offers is what the events of a run say.
use Rattle.world_rules.proofs.Basics.{◌≡◌, ℕ, false, if◌then◌else◌, List, [], ◌∷◌, length, Option, Some, None, refl, sym, ap, ◌∙◌, subst, arith, slice_get, true≢false, eq-eqb, common_steps}
use Rattle.world_rules.proofs.CoinWords.{RootCall}
use Rattle.world_rules.proofs.WorldWords.{Line, Event, is_command_of, offered, offers_of, Node, World, Deed, TraceEntry, Run, entry_of, run_of, events_of, OffersAreOfEvents, DownNodesOfferNothing, NewWallet, NewWatcher, NewRogue, Act, Adds, Orders, Crashes, End, end_of, node_after, deed_at, done, IsActIn}
use Rattle.world_rules.proofs.Nodes.{change_of, EachNode, IsKeptOwn, each_node_keeps}
use Rattle.world_rules.proofs.Told.{IsBy, OperatorIsFirst, by-end, commands-others}
use Rattle.world_rules.proofs.Lives.{begun, IsAny, any_run, runs_keep}
use Rattle.world_rules.proofs.Operators.{operator_is_first}

-- ---- one more event

-- a command of another node, or of none
offers-other : (n : ℕ) (event : Event) (events : List Event) → is_command_of n event ≡ false
    → offers_of (event ∷ events) n ≡ offers_of events n
unfolding offers_of
offers-other n event events is = ap (λ b. if b then offered event else offers_of events n) is

-- one of the node
offers-own : (n : ℕ) (event : Event) (events : List Event) (calls : List RootCall) → IsBy n event calls
    → offers_of (event ∷ events) n ≡ calls
unfolding offers_of
offers-own n event events calls by = grind (arith, common_steps, eq-eqb)

-- ---- what holds of each node

-- the node offers what the events say, and nothing where it is down
record HasOffers (events : List Event) (n : ℕ) (node : Node) : Type 0 where
  offers : node.offers ≡ offers_of events n
  down : node.is_up ≡ false → node.offers ≡ []

-- what isn't there offers nothing
abbrev Offers : List Event → ℕ → Option Node → Type 0
Offers events n None = offers_of events n ≡ []
Offers events n (Some node) = HasOffers events n node

stays : (events : List Event) (event : Event) (m : ℕ) (found : Option Node)
    → offers_of (event ∷ events) m ≡ offers_of events m → Offers events m found → Offers (event ∷ events) m found
stays events event m found same holds = grind (arith, common_steps)

-- a node of whose command the event is
own : (events : List Event) (n : ℕ) (node : Node) (event : Event) → IsBy n event node.offers
    → (node.is_up ≡ false → node.offers ≡ []) → HasOffers (event ∷ events) n node
own events n node event by down = record { offers = sym (offers-own n event events node.offers by); down = down }

-- a node that an order left down offers nothing
down-after : (node : Node) (deed : Deed) (end : End) → (node_after node deed end).is_up ≡ false
    → (node_after node deed end).offers ≡ []
down-after node deed end low = grind (arith, common_steps, true≢false)

module _ (dig : List ℕ → List ℕ) (world : World) (first : OperatorIsFirst world) (events : List Event) where
  abbrev After : Act → ℕ → Option Node → Type 0
  After act = Offers ((done dig world act).event ∷ events)

  own-kept : (act : Act) → IsActIn world act
      → IsKeptOwn (Offers events) (After act) world.nodes (change_of dig world act)
  unfolding done
  own-kept (Adds name (NewWallet who)) known =
      λ none. record { offers = sym (offers-other (length world.nodes) _ events refl ∙ none); down = λ low. refl }
  own-kept (Adds name (NewWatcher account)) known =
      λ none. record { offers = sym (offers-other (length world.nodes) _ events refl ∙ none); down = λ low. refl }
  own-kept (Adds name (NewRogue who)) known = tt
  own-kept (Orders place order cut) known =
      let deed = deed_at dig world place order in
      let end = end_of cut place.node order deed in
      λ held.
      own events place.number _ _ (by-end dig world first place order known end) (down-after place.node deed end)
  own-kept (Crashes place) known =
      λ held. own events place.number _ _ (record { node = refl; calls_are = refl }) (λ low. refl)
  own-kept act known = tt

  kept : (act : Act) → IsActIn world act → EachNode (Offers events) world.nodes
      → EachNode (After act) (done dig world act).world.nodes
  kept act known each =
      each_node_keeps (Offers events) (After act) dig world act known each (record {
        others = grind (arith, common_steps, stays, offers-other, commands-others);
        own = own-kept act known;
      })

-- ---- every run

abbrev OfferedIn : List TraceEntry → World → Type 0
OfferedIn entries world = EachNode (Offers (events_of entries)) world.nodes

begins : (tag operator most : ℕ)
    → OfferedIn (entry_of (Line.Chain tag operator most) (begun tag operator most) ∷ []) (begun tag operator most).world
unfolding offers_of events_of
begins tag operator most h3 = grind (arith, common_steps)

-- node n of a run has its offers
of-run : (dig : List ℕ → List ℕ) (lines : List Line) (run : Run) (world : World) (n : ℕ) (node : Node)
    → run_of dig lines ≡ Some run → run.world ≡ Some world → slice_get world.nodes n ≡ Some node
    → HasOffers (events_of run.entries) n node
unfolding events_of
of-run dig lines run world n node run_is world_is is =
    subst (Offers (events_of run.entries) n) is (runs_keep dig IsAny OfferedIn begins
    (λ lines run world line act come good act_is known each.
    kept dig world (operator_is_first dig IsAny lines run world come) (events_of run.entries) act known each)
    lines run world (any_run dig lines run world run_is world_is) n)

pub offers_are_of_events : OffersAreOfEvents
offers_are_of_events dig lines run world n node run_is world_is is =
    (of-run dig lines run world n node run_is world_is is).offers

pub down_nodes_offer_nothing : DownNodesOfferNothing
down_nodes_offer_nothing dig lines run world n node run_is world_is is =
    (of-run dig lines run world n node run_is world_is is).down
