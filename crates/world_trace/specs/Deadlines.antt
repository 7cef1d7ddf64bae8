-- Deadlines, as a log shows exits and challenges.
use Rattle.std.specs.Prelude.{ℕ, ◌+◌, ◌&&◌, ◌||◌, not, Bool}
use Rattle.std.specs.List.{list_any}
use Rattle.plasma_tx.specs.{declared.views.ChallengeView.{ChallengeView}, declared.views.ExitView.{ExitView}, declared.rules.TheConstants.{CHALLENGE_WINDOW, RESPONSE_WINDOW}}
use Rattle.world_rules.specs.Safety.{is_met}

-- a tick from one time to another meets the end of the time in which the open challenge may be answered
abbrev pub meets_challenge_view : ℕ → ℕ → ChallengeView → Bool
meets_challenge_view before after challenge =
    not challenge.answered && is_met before after (challenge.at + RESPONSE_WINDOW)

-- it meets the end of the time in which the exit may be challenged, or that of an open challenge on it
abbrev pub meets_exit_view : ℕ → ℕ → ExitView → Bool
meets_exit_view before after exit =
    is_met before after (exit.start + CHALLENGE_WINDOW)
    || list_any (meets_challenge_view before after) exit.challenges
