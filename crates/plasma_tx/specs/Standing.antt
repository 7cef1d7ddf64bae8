-- What a log keeps of each coin beside its calls, and what a call does to it.
use Rattle.std.specs.Prelude.{◌≡◌, ℕ, ◌==◌, ◌||◌, not, Bool, true, false, if◌then◌else◌, List, [], ◌∷◌, ◌++◌, Option, Some, None, find, filter, map}
use Rattle.std.specs.List.{list_all, list_any}
use Rattle.plasma_tx.specs.{declared.call.RootCall.{RootCall}, declared.call.RootCall.TheVariants.{StartDeposit, StartSpend, After, Between, Before, Respond, Finish}, declared.views.ChallengeView.{ChallengeView}}
use Rattle.plasma_tx.specs.{declared.views.ExitView.{ExitView}, declared.views.Response.{Response}, declared.standing.Change.{Change}, declared.standing.Change.TheVariants.{Start, Cancel, Challenge, Respond as Answer, Finish as End}}
use Rattle.plasma_tx.specs.{ChallengeLists.{view_with_answer_at, is_challenged}, Views.{block_of, exits_of, is_responded, is_withdrawn, responses, without_responses}}

-- what is kept of a coin: whether it is withdrawn, its standing exits and the responses to its exits
pub record Standing : Type 0 where
  pub withdrawn : Bool
  pub exits : List ExitView
  pub responses : List Response

-- what is kept of a coin that no call names
abbrev pub no_standing : Standing
no_standing = record { withdrawn = false; exits = []; responses = [] }

-- no two exits are at one block
abbrev pub AreDistinct : List ExitView → Type 0
AreDistinct [] = Unit {0}
AreDistinct (exit ∷ exits) = (list_any (λ other. other.block == exit.block) exits ≡ false) × AreDistinct exits

-- the exits without that at the block
abbrev pub without_view : ℕ → List ExitView → List ExitView
without_view block exits = filter (λ exit. not (exit.block == block)) exits

-- the exits with a change of that at the block
abbrev pub with_view_changed : ℕ → (ExitView → ExitView) → List ExitView → List ExitView
with_view_changed block change exits = map (λ exit. if exit.block == block then change exit else exit) exits

-- the exit challenged once more; where it was challenged at that block the earlier challenge counts
abbrev pub with_challenge_view : ChallengeView → ExitView → ExitView
with_challenge_view challenge exit =
    if is_challenged challenge.block exit.challenges then exit
    else record exit { challenges = exit.challenges ++ challenge ∷ [] }

-- the exit with its challenge at that block answered
abbrev pub with_answer_view : ℕ → ExitView → ExitView
with_answer_view block exit = record exit { challenges = map (view_with_answer_at block) exit.challenges }

-- whether the exit has no open challenge
abbrev pub has_no_open_view : Option ExitView → Bool
has_no_open_view None = true
has_no_open_view (Some exit) = list_all (λ challenge. challenge.answered) exit.challenges

-- what is kept of coin c after a change
unfoldable pub standing_after : ℕ → Change → Standing → Standing
standing_after c (Start exit) s = record {
  withdrawn = s.withdrawn;
  exits = without_view exit.block s.exits ++ exit ∷ [];
  responses = without_responses c exit.block s.responses;
}
standing_after c (Cancel block) s = record {
  withdrawn = s.withdrawn;
  exits = without_view block s.exits;
  responses = without_responses c block s.responses;
}
standing_after c (Challenge exit block by at) s =
    let answered = is_responded c exit block s.responses in
    let challenge : ChallengeView = record { block = block; at = at; by = by; answered = answered } in
    record s { exits = with_view_changed exit (with_challenge_view challenge) s.exits }
standing_after c (Answer exit block) s = record {
  withdrawn = s.withdrawn;
  exits = with_view_changed exit (with_answer_view block) s.exits;
  responses = s.responses ++ record { coin = c; exit = exit; block = block } ∷ [];
}
standing_after c (End block) s = record {
  withdrawn = has_no_open_view (find (λ exit. exit.block == block) s.exits) || s.withdrawn;
  exits = without_view block s.exits;
  responses = without_responses c block s.responses;
}

-- the exit that a start makes
abbrev pub new_exit : ℕ → ℕ → ℕ → ℕ → ExitView
new_exit block parent time account =
    record { block = block; parent = parent; start = time; account = account; challenges = [] }

-- the coin whose exits the call changes at that time, and how; None where it changes none
abbrev pub change_of : ℕ → RootCall → Option (ℕ × Change)
change_of time (StartDeposit account coin block) = Some (coin, Start (new_exit block 0 time account))
change_of time (StartSpend account coin parent exit) =
    Some (coin, Start (new_exit exit.block (block_of parent) time account))
change_of time (After account coin exit spend) = Some (coin, Cancel exit)
change_of time (Between account coin exit spend) = Some (coin, Cancel exit)
change_of time (Before account coin exit shown) = Some (coin, Challenge exit (block_of shown) account time)
change_of time (Respond account coin exit challenged spend) = Some (coin, Answer exit challenged)
change_of time (Finish account coin exit) = Some (coin, End exit)
change_of time call = None

-- what is to be kept of coin c, as the views have it
abbrev pub standing_of : List RootCall → ℕ → Standing
standing_of log c = record {
  withdrawn = is_withdrawn log c;
  exits = exits_of log c;
  responses = filter (λ response. response.coin == c) (responses log);
}
