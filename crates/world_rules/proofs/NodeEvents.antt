-- The event of a node's order says something of that node alone, however the order ends.
use Rattle.world_rules.proofs.Basics.{◌≡◌, ◌≢◌, ℕ, ◌==◌, false, List, ◌∷◌, refl, arith, eq-eqb, ne_eqb, common_steps}
use Rattle.world_rules.proofs.CoinWords.{RootCall}
use Rattle.world_rules.proofs.NodeWords.{NodeOrder}
use Rattle.world_rules.proofs.WorldWords.{Event, Other, log_of, Node, Deed, without_offers, End, Lost, event_after}
use Rattle.world_rules.proofs.OrderEnds.{OrderEnds, Accepting, Binding, TakingBack, Guarding, Releasing}
use Rattle.world_rules.proofs.Said.{said, told, is_said_of, said-own, said-other}

-- an event enters no call and says nothing but of node n, and this is said of that one then
pub record IsTold (n : ℕ) (events : List Event) (event told_of : Event) : Type 0 where
  pub log : log_of (event ∷ events) ≡ log_of events
  pub others : (m : ℕ) → n ≢ m → is_said_of m event ≡ false
  pub is : said (event ∷ events) n ≡ told told_of (said events n)

-- what is told of a node by an order that ended so
abbrev pub event_told : ℕ → Deed → End → Event
event_told n deed Lost = Other n
event_told n deed end = deed.gives.event

module _ (n : ℕ) (events : List Event) where
  -- one that says something of the node
  speaks : (event : Event) → log_of (event ∷ events) ≡ log_of events → ((m : ℕ) → is_said_of m event ≡ (n == m))
      → IsTold n events event event
  speaks event log each = grind (arith, common_steps, ne_eqb, said-own, eq-eqb)

  -- one that says nothing
  still : (event told_of : Event) → log_of (event ∷ events) ≡ log_of events → ((m : ℕ) → is_said_of m event ≡ false)
      → told told_of (said events n) ≡ said events n → IsTold n events event told_of
  still event told_of log each same = grind (arith, common_steps, said-other)

  -- an event that is none of the named ones
  pub other-of : IsTold n events (Other n) (Other n)
  unfolding log_of
  other-of = still (Other n) (Other n) refl (λ m. refl) refl

  module _ (dig : List ℕ → List ℕ) (log : List RootCall) (node : Node) where
    -- the event of an order that is done, and of one that is cut
    told-ends : (order : NodeOrder) (event : Event) (calls : List RootCall)
        → OrderEnds dig log n node order event calls
        → IsTold n events event event × IsTold n events (without_offers n event) event
    unfolding log_of
    told-ends order event calls (Accepting bytes taken made) =
        (speaks event refl (λ m. refl), speaks event refl (λ m. refl))
    told-ends order event calls (Binding coin to last sent made) =
        (speaks event refl (λ m. refl), speaks event refl (λ m. refl))
    told-ends order event calls (TakingBack bytes taken made) =
        (speaks event refl (λ m. refl), speaks event refl (λ m. refl))
    told-ends order event calls (Guarding bytes taken made) =
        (speaks event refl (λ m. refl), speaks event refl (λ m. refl))
    told-ends order event calls (Releasing coin tip) = (speaks event refl (λ m. refl), speaks event refl (λ m. refl))
    told-ends order event calls ends =
        (still event event refl (λ m. refl) refl, still (without_offers n event) event refl (λ m. refl) refl)

    -- what an order tells of its node: its event, or nothing where its record is lost
    pub told-after : (order : NodeOrder) (deed : Deed) (end : End)
        → OrderEnds dig log n node order deed.gives.event deed.gives.offers
        → IsTold n events (event_after n deed end) (event_told n deed end)
    told-after order deed end ends = grind (arith, common_steps, told-ends, other-of)
