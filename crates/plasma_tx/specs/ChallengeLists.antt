-- Lists of challenges.
use Rattle.std.specs.Prelude.{ℕ, ◌==◌, Bool, true, if◌then◌else◌, List}
use Rattle.std.specs.List.{list_any}
use Rattle.plasma_tx.specs.declared.views.ChallengeView.{ChallengeView}

-- whether one of the challenges is at the block
abbrev pub is_challenged : ℕ → List ChallengeView → Bool
is_challenged block challenges = list_any (λ challenge. challenge.block == block) challenges

-- the challenge, answered where it is at the block
abbrev pub view_with_answer_at : ℕ → ChallengeView → ChallengeView
view_with_answer_at block challenge =
    if challenge.block == block then record challenge { answered = true } else challenge
