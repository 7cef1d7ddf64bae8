-- The openings that were tested for forgeries.
use Rattle.std.specs.Prelude.{◌≡◌, ℕ, ◌≤◌, nat_eq, true, List, length, Option, Some, None, unwrap_or}
use Rattle.std.specs.List.{slice_get}
use Rattle.std.specs.HashMap.{get}
use Rattle.world_rules.specs.Events.{Event, wallets}
use Rattle.trace_exhibits.specs.Opened.{Opened}
use Rattle.trace_exhibits.specs.Wallets.{is_wallet_in, wallets_since, forges_by}
use Rattle.trace_exhibits.specs.declared.tested.Tested.{Tested}

-- how many wallets had been declared when the opening at a place was last tested; 0 where it wasn't
abbrev pub count_at : Tested → Option ℕ → ℕ
count_at tested None = 0
count_at tested (Some place) = unwrap_or (get nat_eq tested.places place) 0

-- each wallet whose signature the opening forges behind the events was declared since there were so many
pub record IsTestedBy (tag : List ℕ) (events : List Event) (count : ℕ) (one : Opened) : Type 0 where
  pub few : count ≤ length (wallets events)
  pub since : (w : ℕ) → is_wallet_in (wallets events) w ≡ true → forges_by tag events one w ≡ true
      → is_wallet_in (wallets_since count events) w ≡ true

-- each opening that was tested was met, and it was tested by all wallets but those that were declared since
abbrev pub KeepsTested : List ℕ → List Event → List Opened → Tested → Type 0
KeepsTested tag events met tested = (place count : ℕ) → get nat_eq tested.places place ≡ Some count
    → (one : Opened) × (slice_get met place ≡ Some one) × IsTestedBy tag events count one
