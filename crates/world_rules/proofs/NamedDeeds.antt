-- The events of deeds: none declares a wallet or enters a call, and a bundle that is accepted is of a coin of the log.
use Rattle.world_rules.proofs.Basics.{◌≡◌, ℕ, true, List, Ok, Err, refl, ap, arith, rules, Result, common_steps}
use Rattle.world_rules.proofs.CoinWords.{Links, RootCall, Tests, Rules, Bundle, HistoryRefusal, history_of}
use Rattle.world_rules.proofs.NodeWords.{Accepted, links_handed, WalletRecords, who, noted, accept_by, accept_effect, NodeOrder}
use Rattle.world_rules.proofs.WorldWords.{Event, Accepts, Node, wallet_of, as_deed, bundle_read, node_does, without_offers, End, Whole, Lost, event_after}
use Rattle.world_rules.proofs.OrderEnds.{OrderEnds, Accepting as AcceptEnds, order-ends}
use Rattle.world_rules.proofs.HeldTips.{IsCoin}
use Rattle.world_rules.proofs.KeptNames.{is_plain}

-- the event is none of the named ones, or accepts a bundle of a coin of the log
pub data IsDeed (log : List RootCall) (event : Event) : Type 0 where
  Plain : is_plain event ≡ true → IsDeed log event
  Accepting : (n : ℕ) (bundle : Bundle) → event ≡ Accepts n bundle → IsCoin log bundle.coin → IsDeed log event

-- a cut leaves it so
deed-cut : (log : List RootCall) (n : ℕ) (event : Event) → IsDeed log event → IsDeed log (without_offers n event)
deed-cut log n event (Plain plain) = grind (arith, common_steps, is_plain)
deed-cut log n event (Accepting m bundle is coin) = Accepting m bundle (ap (without_offers n) is) coin

-- ---- accept

shown-coin : (tests : Tests) (rules : Rules) (log : List RootCall) (bundle : Bundle) (links : Links)
    → history_of tests rules log bundle ≡ Ok links → IsCoin log bundle.coin
unfolding history_of
shown-coin tests rules log bundle links is = grind (arith, common_steps)

-- links that are handed in are of a coin of the log
handed-coin : (dig : List ℕ → List ℕ) (tag : List ℕ) (log : List RootCall) (bytes : List ℕ) (links : Links)
    → links_handed dig tag log bytes ≡ Ok links → IsCoin log (bundle_read bytes).coin
handed-coin dig tag log bytes links is = grind (arith, common_steps, shown-coin)

accept-coin : (dig : List ℕ → List ℕ) (wallet : WalletRecords) (log : List RootCall) (bytes : List ℕ) (taken : Accepted)
    → (accept_effect dig wallet log bytes).answer ≡ Ok taken → IsCoin log (bundle_read bytes).coin
unfolding accept_effect
accept-coin dig wallet log bytes taken made = at (links_handed dig (who wallet).tag log bytes) refl made
  where
    at : (r : Result Links HistoryRefusal) → links_handed dig (who wallet).tag log bytes ≡ r
        → (accept_by log (noted dig wallet) r).answer ≡ Ok taken → IsCoin log (bundle_read bytes).coin
    at (Err why) is wrong = absurd (cc wrong)
    at (Ok links) is given = handed-coin dig (who wallet).tag log bytes links is

module _ (dig : List ℕ → List ℕ) (log : List RootCall) (n : ℕ) (node : Node) where
  ends-are : (order : NodeOrder) (event : Event) (calls : List RootCall)
      → OrderEnds dig log n node order event calls → IsDeed log event
  ends-are order event calls (AcceptEnds bytes taken made) =
      Accepting n (bundle_read bytes) refl (accept-coin dig (wallet_of node) log bytes taken made)
  ends-are order event calls ends = Plain refl

  -- the event of an order is one of these, however it ends
  pub order-is : (order : NodeOrder) (end : End)
      → IsDeed log (event_after n (as_deed n order (node_does dig log node order)) end)
  order-is order Lost = Plain refl
  order-is order Whole = ends-are order _ _ (order-ends dig log n node order)
  order-is order end = deed-cut log n _ (ends-are order _ _ (order-ends dig log n node order))
