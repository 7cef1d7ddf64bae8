-- The event of an act is of the node that it changes, so it says nothing of the others; and what it says of that one.
use Rattle.world_rules.proofs.Basics.{◌≡◌, ℕ, true, false, List, [], length, Option, Some, None, refl, sym, ap, arith, slice_get, ne_eqb, common_steps}
use Rattle.world_rules.proofs.CoinWords.{RootCall, rules_of}
use Rattle.world_rules.proofs.NodeWords.{NodeOrder}
use Rattle.world_rules.proofs.WorldWords.{Event, node_in, is_command_of, offered, Node, World, is_operator_role, Deed, without_offers, Place, NewWallet, NewWatcher, NewRogue, Act, Rests, Signs, Adds, Enters, Orders, Crashes, End, end_of, node_after, event_after, deed_at, done, has_order, MayOrder, IsActIn}
use Rattle.world_rules.proofs.OrderEnds.{OrderEnds, Sealing, order-ends}
use Rattle.world_rules.proofs.NodeEvents.{IsTold, event_told, told-after}
use Rattle.world_rules.proofs.Said.{is_said_of}
use Rattle.world_rules.proofs.Nodes.{Change, OneNode, change_of, IsOther}

-- the event is a command of node n, by which it offers these calls
pub record IsBy (n : ℕ) (event : Event) (calls : List RootCall) : Type 0 where
  pub node : node_in event ≡ Some n
  pub calls_are : offered event ≡ calls

-- a cut command is by its node too, which offers nothing then
cut-by : (n : ℕ) (event : Event) → node_in event ≡ Some n → IsBy n (without_offers n event) []
cut-by n event by = grind (arith, common_steps)

-- the first node alone is the operator
abbrev pub OperatorIsFirst : World → Type 0
OperatorIsFirst world = (n : ℕ) (node : Node) → slice_get world.nodes n ≡ Some node
    → is_operator_role node.role ≡ true → n ≡ 0

-- the number of the node that changes
abbrev pub number_changed : Change → Option ℕ
number_changed (OneNode place after) = Some place.number
number_changed change = None

module _ (dig : List ℕ → List ℕ) (world : World) (first : OperatorIsFirst world) where
  module _ (place : Place) (order : NodeOrder) (may : MayOrder world place order) where
    abbrev deed : Deed
    deed = deed_at dig world place order

    -- an order's event is by its node, and offers what the node offers then
    pub by-order : IsBy place.number deed.gives.event deed.gives.offers
    by-order = by order may.role (order-ends dig world.chain.log place.number place.node order)
      where
        by : (one : NodeOrder) → has_order one place.node.role ≡ true → {event : Event} → {calls : List RootCall}
            → OrderEnds dig world.chain.log place.number place.node one event calls → IsBy place.number event calls
        by one role Sealing =
            record { node = ap Some (sym (first place.number place.node may.there role)); calls_are = refl }
        by one role ends = record { node = refl; calls_are = refl }

    -- however it ends
    pub by-end : (end : End)
        → IsBy place.number (event_after place.number deed end) (node_after place.node deed end).offers
    by-end end = grind (arith, common_steps, by-order, cut-by)

  -- the event is by the node that changes, or by none
  pub event-by : (act : Act) → IsActIn world act
      → node_in (done dig world act).event ≡ number_changed (change_of dig world act)
  unfolding done
  event-by act known = grind (arith, common_steps, by-end)

  -- so it is no command of the others
  pub commands-others : (act : Act) → IsActIn world act → (m : ℕ) → IsOther world.nodes (change_of dig world act) m
      → is_command_of m (done dig world act).event ≡ false
  commands-others act known m other = grind (arith, common_steps, event-by, change_of, ne_eqb)

module _ (dig : List ℕ → List ℕ) (world : World) where
  -- what an order tells of its node, however it ends
  pub order-told : (events : List Event) (place : Place) (order : NodeOrder) (end : End)
      → let deed = deed_at dig world place order in
      IsTold place.number events (event_after place.number deed end) (event_told place.number deed end)
  order-told events place order end =
      told-after place.number events dig world.chain.log place.node order (deed_at dig world place order) end
      (order-ends dig world.chain.log place.number place.node order)

  -- an act says nothing of the others
  pub said-others : (act : Act) → (m : ℕ) → IsOther world.nodes (change_of dig world act) m
      → is_said_of m (done dig world act).event ≡ false
  unfolding done
  said-others (Rests reply) m other = refl
  said-others (Signs leaf body rogue) m other = refl
  said-others (Adds name (NewWallet who)) m other = ne_eqb (length world.nodes) m other
  said-others (Adds name (NewWatcher account)) m other = refl
  said-others (Adds name (NewRogue who)) m other = refl
  said-others (Enters origin call) m other = grind (arith, common_steps, is_said_of)
  said-others (Orders place order cut) m other =
      (order-told [] place order (end_of cut place.node order (deed_at dig world place order))).others m other
  said-others (Crashes place) m other = refl

-- an act leaves the rules of the chain
pub rules-stay : (dig : List ℕ → List ℕ) (world : World) (act : Act)
    → rules_of (done dig world act).world.chain ≡ rules_of world.chain
unfolding done
rules-stay dig world act = grind (arith, common_steps)
