-- The slots of a game as the exits that the views have.
use Rattle.std.specs.Prelude.{◌≡◌, ℕ, ◌≤◌, ◌==◌, false, List, Option, Some, None, map, filter}
use Rattle.std.specs.List.{AllByRecursion}
use Rattle.plasma_tx.specs.{declared.rules.TheConstants.{LAST_TIME}, Views.{Challenge, Exit, challenge_at}}
use Rattle.exit_game.specs.{declared.challenges.Challenge.{Challenge as Kept}, declared.slot.Slot.{Slot}}

-- a challenge of a slot as the views have it
abbrev pub as_challenge : Kept → Challenge
as_challenge kept =
    record { block = kept.block; owner = kept.owner; by = kept.by; at = kept.at; answered = kept.answered }

-- a slot as the exit that the views have; the account that started it is its owner's
abbrev pub as_exit : Slot → Exit
as_exit slot = record {
  coin = slot.coin;
  block = slot.block;
  parent = slot.parent;
  owner = slot.owner;
  parent_owner = slot.parent_owner;
  account = slot.owner.account;
  start = slot.start;
  challenges = map as_challenge slot.challenges;
}

-- the exits of coin c, in their order
abbrev pub exits_of_coin : ℕ → List Exit → List Exit
exits_of_coin c exits = filter (λ exit. exit.coin == c) exits

-- no time of a slot is past the clock's limit
pub record IsDated (slot : Slot) : Type 0 where
  pub start : slot.start ≤ LAST_TIME
  pub challenges : AllByRecursion (λ kept. kept.at ≤ LAST_TIME) slot.challenges

-- the exit that may stand has no challenge at the block, and an open one there
abbrev pub IsUnchallenged : ℕ → Option Exit → Type 0
IsUnchallenged block None = ⊥
IsUnchallenged block (Some exit) = challenge_at block exit.challenges ≡ None

abbrev pub IsOpen : ℕ → Option Exit → Type 0
IsOpen block None = ⊥
IsOpen block (Some exit) =
    (challenge : Challenge) × (challenge_at block exit.challenges ≡ Some challenge) × (challenge.answered ≡ false)
