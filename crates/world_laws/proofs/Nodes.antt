-- What stays of a node while others act.
use Rattle.world_laws.proofs.Basics.{◌≡◌, ℕ, ◌||◌, true, false, List, ◌∷◌, arith, rules, list_any, eqb-true, true≢false, common_steps}
use Rattle.world_laws.proofs.CoinWords.{Owner, coin_at, Tests, Rules}
use Rattle.world_laws.proofs.WorldWords.{Event, log_of, wallet_owner, accepted, bound_by, taken_back, is_bundle, guarded_by, is_command_of, was_deposited, is_joined, is_tip, IsLegal}

-- what the events say of node n is the same with the event
pub record SameNode (event : Event) (events : List Event) (n : ℕ) : Type 0 where
  pub log : log_of (event ∷ events) ≡ log_of events
  pub bundles : accepted (event ∷ events) n ≡ accepted events n
  pub bodies : bound_by (event ∷ events) n ≡ bound_by events n
  pub back : taken_back (event ∷ events) n ≡ taken_back events n
  pub guards : guarded_by (event ∷ events) n ≡ guarded_by events n

-- so it is with an event of no call and of another node
pub same-node : (event : Event) (events : List Event) (n : ℕ) → is_command_of n event ≡ false
    → is_joined event ≡ false → SameNode event events n
unfolding log_of accepted bound_by taken_back guarded_by
same-node event events n other none = grind (arith, common_steps, true≢false)

-- ---- the owner stays

-- of a node that did something no wallet is declared
pub owner-same : (tests : Tests) (rules : Rules) (event : Event) (events : List Event) (n : ℕ)
    → IsLegal tests rules (event ∷ events) → list_any (is_command_of n) events ≡ true
    → wallet_owner (event ∷ events) n ≡ wallet_owner events n
unfolding IsLegal wallet_owner
owner-same tests rules event events n legal used = grind (arith, common_steps, true≢false, eqb-true)

-- ---- where the node came to have a coin

pub tip-same : (event : Event) (events : List Event) (n : ℕ) (me : Owner) (c e : ℕ) → SameNode event events n
    → is_tip (event ∷ events) n me c e ≡ is_tip events n me c e
tip-same event events n me c e s =
    λ i. was_deposited me e (coin_at (s.log i) c) || list_any (is_bundle c e) (s.bundles i)
