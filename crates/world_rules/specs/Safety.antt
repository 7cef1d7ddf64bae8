-- Who holds a coin, which ticks somebody attended, and what must not befall a held coin.
use Rattle.std.specs.Prelude.{ℕ, ◌+◌, ◌==◌, ◌&&◌, ◌||◌, not, Bool, true, false, if◌then◌else◌, nat_lt, nat_le, List, [], ◌∷◌, Option, Some, None}
use Rattle.std.specs.List.{list_any}
use Rattle.std.specs.Option.{option_map_or}
use Rattle.plasma_tx.specs.{declared.rules.TheConstants.{CHALLENGE_WINDOW, RESPONSE_WINDOW, EXIT_PERIOD}, declared.owner.Owner.{Owner}, declared.body.Body.{Body}, declared.call.RootCall.{RootCall}, declared.answer.Answer.{Answer}}
use Rattle.plasma_tx.specs.{declared.views.CoinView.{CoinView}, Views.{now, coin_at, Challenge, Exit, exits, exit_at, is_withdrawn}, Shown.{Tests, Rules}, RuleLaws.{is_paid}, Table.{answer_to, is_accepted}}
use Rattle.coin_history.specs.declared.bundle.Bundle.{Bundle}
use Rattle.wallet_core.specs.State.{is_owner}
use Rattle.world_rules.specs.Events.{Event, Joins, Bounces, Watches, log_of, wallet_owner, accepted, signed_away_by, is_sent_from, is_bundle, guarded_by, watchers, is_command_of, offered, coin_of_call}

-- ---- who holds a coin

-- the coin was deposited at e to the owner
abbrev pub was_deposited : Owner → ℕ → Option CoinView → Bool
was_deposited me e None = false
was_deposited me e (Some made) = (made.deposit == e) && is_owner made.owner me

-- what holding asks for, of a wallet that is declared
abbrev pub holds_with : List RootCall → Option Owner → List Body → List Bundle → ℕ → ℕ → Bool
holds_with log None bodies bundles c e = false
holds_with log (Some me) bodies bundles c e =
    (was_deposited me e (coin_at log c) || list_any (is_bundle c e) bundles)
    && not (is_sent_from bodies c e) && not (is_withdrawn log c)

-- The wallet holds the coin at e: it was deposited there to the wallet's owner, or the wallet accepted it with that
-- tip; no leaf that wasn't taken back signs it away from there; and it isn't withdrawn.
unfoldable pub holds : List Event → ℕ → ℕ → ℕ → Bool
holds events w c e =
    holds_with (log_of events) (wallet_owner events w) (signed_away_by events w) (accepted events w) c e

-- ---- deadlines

-- a tick from one time to another meets the deadline
abbrev pub is_met : ℕ → ℕ → ℕ → Bool
is_met before after deadline = nat_lt before deadline && nat_le deadline after

-- the tick meets the end of the time in which the open challenge may be answered
abbrev pub meets_challenge : ℕ → ℕ → Challenge → Bool
meets_challenge before after challenge = not challenge.answered && is_met before after (challenge.at + RESPONSE_WINDOW)

-- the tick meets the end of the time in which the exit may be challenged, or that of an open challenge on it
abbrev pub meets_exit : ℕ → ℕ → Exit → Bool
meets_exit before after exit =
    is_met before after (exit.start + CHALLENGE_WINDOW) || list_any (meets_challenge before after) exit.challenges

-- the event is a tick that meets a deadline of the coin
abbrev pub meets_deadline : List RootCall → ℕ → Event → Bool
meets_deadline log c (Joins (RootCall.Tick time)) =
    list_any (λ exit. (exit.coin == c) && meets_exit (now log) time exit) (exits log)
meets_deadline log c event = false

-- ---- who attends

-- none of the calls is of the coin
abbrev pub offers_none : ℕ → List RootCall → Bool
offers_none c calls = not (list_any (λ call. coin_of_call call == c) calls)

-- the event is a watch, and it is a call that was accepted
abbrev pub is_watch : Event → Bool
is_watch (Watches n calls) = true
is_watch event = false

abbrev pub is_joined : Event → Bool
is_joined (Joins call) = true
is_joined event = false

-- The node's last command was a watch whose offers have none for the coin, and no call was accepted since. A crash, a
-- cut and an opening count as commands.
unfoldable pub is_quiet : List Event → ℕ → ℕ → Bool
is_quiet [] n c = false
is_quiet (event ∷ events) n c =
    if is_command_of n event then is_watch event && offers_none c (offered event)
    else not (is_joined event) && is_quiet events n c

-- a quiet watcher that keeps a guard of the coin with that tip
abbrev pub is_watched_by : List Event → ℕ → ℕ → ℕ → Bool
is_watched_by events c e g = is_quiet events g c && list_any (is_bundle c e) (guarded_by events g)

-- a guardian of the wallet's coin at that tip is quiet: the wallet itself, or a watcher that guards it
unfoldable pub is_guarded : List Event → ℕ → ℕ → ℕ → Bool
is_guarded events w c e = is_quiet events w c || list_any (is_watched_by events c e) (watchers events)

-- the event meets a deadline of the coin while the wallet holds it at e
abbrev pub needs_guardian : List Event → ℕ → ℕ → ℕ → Event → Bool
needs_guardian events w c e event = meets_deadline (log_of events) c event && holds events w c e

-- it does, and nobody attends
abbrev pub goes_unattended : List Event → ℕ → ℕ → ℕ → Event → Bool
goes_unattended events w c e event = needs_guardian events w c e event && not (is_guarded events w c e)

-- each tick that met a deadline of the coin, while the wallet held it at e, was attended
unfoldable pub is_attended : List Event → ℕ → ℕ → ℕ → Bool
is_attended [] w c e = true
is_attended (event ∷ events) w c e = not (goes_unattended events w c e event) && is_attended events w c e

-- ---- what must not befall a held coin

-- the owner's account started the exit
abbrev pub is_mine : Owner → Exit → Bool
is_mine me exit = exit.account == me.account

-- the exit stands, and is the owner's
abbrev pub is_own : Owner → Option Exit → Bool
is_own me exit = option_map_or (is_mine me) exit false

-- what a Finish does that was answered so: it pays the exit of another account; or it doesn't pay the owner's exit at
-- e, at its end or later
abbrev pub finish_harms : Owner → ℕ → ℕ → Answer → Option Exit → Bool
finish_harms me e time answer None = false
finish_harms me e time answer (Some exit) =
    if is_mine me exit
    then (exit.block == e) && nat_le (exit.start + EXIT_PERIOD) time && not (is_paid answer)
    else is_paid answer

-- what a call does to an owner's coin that is held at e: it cancels the owner's exit there, or harms as a Finish
unfoldable pub call_harms : Tests → Rules → List RootCall → Owner → ℕ → ℕ → RootCall → Bool
call_harms tests rules log me c e (RootCall.After account coin block spend) =
    (coin == c) && (block == e) && is_own me (exit_at log coin block)
    && is_accepted (answer_to tests rules log (RootCall.After account coin block spend))
call_harms tests rules log me c e (RootCall.Between account coin block spend) =
    (coin == c) && (block == e) && is_own me (exit_at log coin block)
    && is_accepted (answer_to tests rules log (RootCall.Between account coin block spend))
call_harms tests rules log me c e (RootCall.Finish account coin block) =
    (coin == c)
    && finish_harms me e (now log) (answer_to tests rules log (RootCall.Finish account coin block))
    (exit_at log coin block)
call_harms tests rules log me c e call = false

-- what an event does to a declared wallet's coin, by the call that it enters
abbrev pub harms : Tests → Rules → List RootCall → Option Owner → ℕ → ℕ → Event → Bool
harms tests rules log None c e event = false
harms tests rules log (Some me) c e (Joins call) = call_harms tests rules log me c e call
harms tests rules log (Some me) c e (Bounces call) = call_harms tests rules log me c e call
harms tests rules log (Some me) c e event = false

-- the event harms the wallet, which holds the coin at e before it
abbrev pub is_harmed : Tests → Rules → List Event → ℕ → ℕ → ℕ → Event → Bool
is_harmed tests rules events w c e event =
    holds events w c e && harms tests rules (log_of events) (wallet_owner events w) c e event

-- No event came, with the wallet holding the coin at e just before it, that paid the exit of another account,
-- cancelled or dropped the wallet's exit at e, or, as a Finish at its end or later, didn't pay it.
unfoldable pub is_safe : Tests → Rules → List Event → ℕ → ℕ → ℕ → Bool
is_safe tests rules [] w c e = true
is_safe tests rules (event ∷ events) w c e =
    not (is_harmed tests rules events w c e event) && is_safe tests rules events w c e
