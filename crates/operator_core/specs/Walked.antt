-- Where walks ended, and over which blocks.
use Rattle.std.specs.Prelude.{◌≡◌, ◌<◌, ◌≤◌, ◌+◌, ℕ, List, length, Option, Some, None, get_or}
use Rattle.std.specs.Ordering.{nat_cmp}
use Rattle.std.specs.BTreeMap.{get}
use Rattle.sparse_merkle.specs.declared.tree.Entry.{Entry}
use Rattle.plasma_tx.specs.declared.call.RootCall.{RootCall}
use Rattle.plasma_tx.specs.declared.views.CoinView.{CoinView}
use Rattle.plasma_tx.specs.Shown.{root_at}
use Rattle.plasma_tx.specs.Views.{blocks}
use Rattle.operator_rules.specs.Walk.{place_at}
use Rattle.operator_core.specs.declared.ends.End.{End}
use Rattle.operator_core.specs.declared.ends.Ends.{Ends}
use Rattle.operator_core.specs.Tips.{place_of_tip}

-- the log's first blocks have these roots
pub record Follows (log : List RootCall) (roots : List (Option (List ℕ))) : Type 0 where
  pub roots_are : (m : ℕ) → m < length roots → get_or roots m None ≡ root_at log (m + 1)

-- under each log that follows these roots a walk of the coin is so far there
pub record IsEnd (dig : List ℕ → List ℕ) (sealed : List (List Entry)) (roots : List (Option (List ℕ))) (coin : ℕ)
    (end : End) : Type 0 where
  pub within : end.upto ≤ length roots
  pub placed : (log : List RootCall) → Follows log roots
      → place_of_tip end.tip ≡ place_at dig end.tag log sealed coin end.made end.upto

-- each end that is kept is one
pub record KeepsEnds (dig : List ℕ → List ℕ) (sealed : List (List Entry)) (ends : Ends) : Type 0 where
  pub each : (coin : ℕ) (end : End) → get nat_cmp ends.ends coin ≡ Some end
      → IsEnd dig sealed ends.roots.items coin end

-- a walk of the coin is so far there, which is the deposit or within the log's blocks
pub record IsOnWay (dig : List ℕ → List ℕ) (tag : List ℕ) (log : List RootCall) (sealed : List (List Entry)) (coin : ℕ)
    (made : CoinView) (end : End) : Type 0 where
  pub placed : place_of_tip end.tip ≡ place_at dig tag log sealed coin made end.upto
  pub low : made.deposit ≤ end.upto
  pub high : made.deposit < end.upto → end.upto ≤ blocks log
