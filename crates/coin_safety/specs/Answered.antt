-- What is kept of the answers to a coin's challenges at one block, so that each is found at once. A call's place among
-- a log's calls is counted from the oldest, which is at 0.
use Rattle.std.specs.Prelude.{◌≡◌, ℕ, ◌==◌, ◌&&◌, if◌then◌else◌, List, reverse, slice_get, Option, Some, None}
use Rattle.std.specs.Option.{option_and_then}
use Rattle.std.specs.Ordering.{nat_cmp}
use Rattle.std.specs.BTreeMap.{BTreeMap, get}
use Rattle.plasma_tx.specs.declared.opening.RawOpening.{RawOpening}
use Rattle.plasma_tx.specs.declared.call.RootCall.{RootCall}
use Rattle.plasma_tx.specs.declared.call.RootCall.TheVariants.{Respond}
use Rattle.coin_safety.specs.Advice.{answer_in, answer_shown, left_in}

-- the block of the exit of coin c whose challenge at the block `at` the call answers
abbrev pub answered_exit : ℕ → ℕ → RootCall → Option ℕ
answered_exit c at (Respond account coin exit challenged spend) =
    if (coin == c) && (challenged == at) then Some exit else None
answered_exit c at call = None

-- the answer for the exit at the block that the call at the place is
abbrev pub answer_at : List RootCall → ℕ → ℕ → ℕ → ℕ → Option RawOpening
answer_at log c at block place = option_and_then (answer_in c at block) (slice_get (reverse log) place)

-- by the block of an exit of coin c, where the last answer to its challenge at the block `at` stands
abbrev pub AreAnswers : List RootCall → ℕ → ℕ → BTreeMap ℕ ℕ → Type 0
AreAnswers log c at places = (block : ℕ)
    → option_and_then (answer_at log c at block) (get nat_cmp places block) ≡ answer_shown log c at block

-- the spend of the block that the call at the place shows, where it answers a challenge there of an exit of coin c
abbrev pub left_at : List RootCall → ℕ → ℕ → ℕ → Option RawOpening
left_at log c block place = option_and_then (left_in c block) (slice_get (reverse log) place)
