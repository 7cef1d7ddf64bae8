-- What the event of a node's command says of that node, and of others.
use Rattle.std.proofs.Common.{◌≡◌, ◌≢◌, ℕ, ◌==◌, true, false, List, ◌∷◌, Some, sym, ap, ◌∙◌, arith}
use Rattle.std.proofs.lemmas.Bool.{eq-eqb, ne_eqb}
use Rattle.std.proofs.lemmas.Grind.{common_steps}
use Rattle.world_rules.specs.Events.{Event, node_in}
use Rattle.world_rules.specs.Steps.{without_offers}
use Rattle.world_rules.proofs.Said.{said, told, said-own, said-other, cut-told}
use Rattle.world_laws.specs.Legal.{left_by}
use Rattle.world_laws.proofs.Lists.{some_same}
use Rattle.world_laws.proofs.LeftRuns.{left-other}

module _ (n : ℕ) (events : List Event) where
  own : (v : ℕ) → Some v ≡ Some n → (v == n) ≡ true
  own v is = eq-eqb v n (some_same v n is)

  -- of its own node
  pub said-near : (event : Event) → node_in event ≡ Some n → said (event ∷ events) n ≡ told event (said events n)
  said-near event is = grind (arith, common_steps, said-own, own, said-other) steps 20000

  cut-node : (event : Event) → node_in event ≡ Some n → node_in (without_offers n event) ≡ Some n
  cut-node event is = grind (arith, common_steps) steps 20000

  -- without what it offers it says the same
  pub said-cut : (event : Event) → node_in event ≡ Some n
      → said (without_offers n event ∷ events) n ≡ told event (said events n)
  said-cut event is = said-near (without_offers n event) (cut-node event is) ∙ cut-told n event (said events n)

  -- of another node
  apart : (v m : ℕ) → Some v ≡ Some n → n ≢ m → (v == m) ≡ false
  apart v m is other = ap (λ (k : ℕ). k == m) (some_same v n is) ∙ ne_eqb n m other

  pub said-apart : (m : ℕ) (event : Event) → node_in event ≡ Some n → n ≢ m → said (event ∷ events) m ≡ said events m
  said-apart m event is other = grind (arith, common_steps, said-other, apart) steps 20000

  pub left-apart : (m : ℕ) (event : Event) → node_in event ≡ Some n → n ≢ m
      → left_by (event ∷ events) m ≡ left_by events m
  left-apart m event is other =
      left-other event events m (λ call same. other (some_same n m (sym is ∙ ap node_in same)))
