-- Lists of challenges.
use Rattle.std.specs.Prelude.{ℕ, ◌==◌, true, if◌then◌else◌, List, Option, find}
use Rattle.exit_game.specs.declared.challenges.Challenge.{Challenge}

-- the challenge at the block
abbrev pub challenge_at : ℕ → List Challenge → Option Challenge
challenge_at block challenges = find (λ challenge. challenge.block == block) challenges

-- the challenge, answered where it is at the block
abbrev pub answered_at : ℕ → Challenge → Challenge
answered_at block challenge = if challenge.block == block then record challenge { answered = true } else challenge
