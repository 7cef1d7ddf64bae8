-- What is kept of a coin's exits for one look, so that each is found at once. A call's place among a log's calls is
-- counted from the oldest, which is at 0.
use Rattle.std.specs.Prelude.{◌≡◌, ℕ, ◌==◌, if◌then◌else◌, List, reverse, slice_get, Option, Some, None}
use Rattle.std.specs.Option.{option_and_then}
use Rattle.std.specs.Ordering.{nat_cmp}
use Rattle.std.specs.BTreeMap.{BTreeMap, get}
use Rattle.plasma_tx.specs.declared.opening.RawOpening.{RawOpening}
use Rattle.plasma_tx.specs.declared.call.RootCall.{RootCall}
use Rattle.plasma_tx.specs.declared.call.RootCall.TheVariants.{StartSpend}
use Rattle.plasma_tx.specs.declared.views.ExitView.{ExitView}
use Rattle.plasma_tx.specs.Views.{exits_of}
use Rattle.coin_safety.specs.declared.index.Index.{Index}
use Rattle.coin_safety.specs.Advice.{exit_in, lowest, start_shown}

-- by block, where the exit there stands
abbrev pub ArePlaces : List ExitView → BTreeMap ℕ ℕ → Type 0
ArePlaces exits places = (block : ℕ)
    → option_and_then (slice_get exits) (get nat_cmp places block) ≡ exit_in exits block

-- by parent, the lowest block of its exits
abbrev pub AreLowest : List ExitView → BTreeMap ℕ ℕ → Type 0
AreLowest exits blocks = (parent : ℕ) → get nat_cmp blocks parent ≡ lowest exits parent

-- the opening of the exit's block that the call shows, where it starts a transfer's exit of coin c
abbrev pub spend_in : ℕ → RootCall → Option RawOpening
spend_in c (StartSpend account coin parent exit) = if coin == c then Some exit else None
spend_in c call = None

-- what the call at the place shows
abbrev pub spend_at : List RootCall → ℕ → ℕ → Option RawOpening
spend_at log c place = option_and_then (spend_in c) (slice_get (reverse log) place)

-- by block, where the last start of coin c's exit there stands
abbrev pub AreStarts : List RootCall → ℕ → BTreeMap ℕ ℕ → Type 0
AreStarts log c places = (block : ℕ)
    → option_and_then (spend_at log c) (get nat_cmp places block) ≡ start_shown log c block

-- all three, of coin c
pub record IsIndex (log : List RootCall) (c : ℕ) (index : Index) : Type 0 where
  pub places_are : ArePlaces (exits_of log c) index.places
  pub lowest_are : AreLowest (exits_of log c) index.lowest
  pub starts_are : AreStarts log c index.starts
