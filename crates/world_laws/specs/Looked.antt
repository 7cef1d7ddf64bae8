-- Who looked after a coin. A tick is attended only where a guardian's last command was a watch that offered nothing for
-- the coin, and no call was accepted since. To look is less: a guardian watched at some time since the exit began, and
-- what it then offered for this exit was fulfilled since, by whomever. Calls for other coins, money, ticks and the
-- guardian's later commands don't matter. What is looked after is safe, and what is attended is looked after.
use Rattle.std.specs.Prelude.{◌≡◌, ◌≢◌, ◌⊎◌, ℕ, ◌+◌, ◌==◌, ◌&&◌, ◌||◌, not, Bool, true, false, if◌then◌else◌, nat_lt, List, [], ◌∷◌, ◌++◌}
use Rattle.std.specs.List.{Contains, list_any, list_all}
use Rattle.std.specs.Option.{option_map_or}
use Rattle.plasma_tx.specs.{declared.rules.TheConstants.{CHALLENGE_WINDOW, RESPONSE_WINDOW}, declared.owner.Owner.{Owner}, declared.call.RootCall.{RootCall}, declared.call.RootCall.TheVariants.{Tick, After, Between, Before, Respond}}
use Rattle.plasma_tx.specs.{Views.{now, block_of, Exit, exits}, Laws.{is_start, is_end, is_respond}, Shown.{tests_by, rules_of}}
use Rattle.schedule_text.specs.declared.line.Line.{Line}
use Rattle.world_rules.specs.{declared.verdict.Verdict.{Verdict}, declared.verdict.VerdictKind.{VerdictKind}, declared.verdict.Exhibit.{Exhibit}, Events.{Event, Joins, Watches, log_of, coin_of_call, wallet_owner, is_bundle, guarded_by}}
use Rattle.world_rules.specs.{World.{World}, Steps.{Run, events_of}, Exhibits.{collides, is_forged}, Laws.{IsOfHeld}, Safety.{holds, is_met, meets_challenge, is_mine, is_attended, is_safe}, Verdicts.{verdicts_of, exhibit_of_run}}
use Rattle.world_laws.specs.Headline.{IsRun}

-- ---- looks

-- the call challenges the exit of coin c at block e, by what stands at block n
abbrev pub is_before : ℕ → ℕ → ℕ → RootCall → Bool
is_before c e n (Before account coin exit shown) = (coin == c) && (exit == e) && (block_of shown == n)
is_before c e n call = false

-- the call is an After, a Between, a Before or a Respond of the exit of coin c at block e
abbrev pub is_on_exit : ℕ → ℕ → RootCall → Bool
is_on_exit c e (After account coin exit spend) = (coin == c) && (exit == e)
is_on_exit c e (Between account coin exit spend) = (coin == c) && (exit == e)
is_on_exit c e (Before account coin exit shown) = (coin == c) && (exit == e)
is_on_exit c e (Respond account coin exit challenged spend) = (coin == c) && (exit == e)
is_on_exit c e call = false

-- An accepted call fulfils an offered one: it ends the same exit, or challenges it at the same block, or answers the
-- same challenge; whoever makes it, and whatever he shows.
abbrev pub fulfils : RootCall → RootCall → Bool
fulfils (After account coin exit spend) call = is_end coin exit call
fulfils (Between account coin exit spend) call = is_end coin exit call
fulfils (Before account coin exit shown) call = is_end coin exit call || is_before coin exit (block_of shown) call
fulfils (Respond account coin exit challenged spend) call =
    is_end coin exit call || is_respond coin exit challenged call
fulfils offer call = false

-- each of the offered calls that is asked for was fulfilled since
abbrev pub are_fulfilled : (RootCall → Bool) → List RootCall → List RootCall → Bool
are_fulfilled is_asked since offers = list_all (λ offer. not (is_asked offer) || list_any (fulfils offer) since) offers

-- node n is a guardian of the coin that wallet w holds at e: the wallet itself, or a watcher that guards it at that tip
abbrev pub is_guardian : List Event → ℕ → ℕ → ℕ → ℕ → Bool
is_guardian events w c e n = (n == w) || list_any (is_bundle c e) (guarded_by events n)

-- Since the last call that `opens` what is looked after, a guardian watched, and each call that is asked for and that
-- this watch offered was fulfilled since. Where no call opens it any such watch counts. `since` are the calls that
-- joined the log behind these events.
unfoldable pub has_look : (RootCall → Bool) → (RootCall → Bool) → List RootCall → List Event → ℕ → ℕ → ℕ → Bool
has_look opens is_asked since [] w c e = false
has_look opens is_asked since (Joins call ∷ events) w c e =
    not (opens call) && has_look opens is_asked (call ∷ since) events w c e
has_look opens is_asked since (Watches n offers ∷ events) w c e =
    (is_guardian events w c e n && are_fulfilled is_asked since offers)
    || has_look opens is_asked since events w c e
has_look opens is_asked since (event ∷ events) w c e = has_look opens is_asked since events w c e

-- somebody looked after the coin's exit at this block since it began
abbrev pub exit_has_look : List Event → ℕ → ℕ → ℕ → ℕ → Bool
exit_has_look events w c e block = has_look (is_start c block) (is_on_exit c block) [] events w c e

-- somebody looked after the challenge at block n of the exit at e since it was made
abbrev pub challenge_has_look : List Event → ℕ → ℕ → ℕ → ℕ → Bool
challenge_has_look events w c e n = has_look (is_before c e n) (is_respond c e n) [] events w c e

-- ---- ticks

-- A tick to this time ends the window of another account's exit, or of an open challenge of the owner's exit at e, and
-- nobody looked since that exit began, or since that challenge was made.
abbrev pub passes_unseen : Owner → List Event → ℕ → ℕ → ℕ → ℕ → Exit → Bool
passes_unseen me events w c e time exit =
    if is_mine me exit
    then (exit.block == e)
    && list_any
    (λ challenge.
    meets_challenge (now (log_of events)) time challenge && not (challenge_has_look events w c e challenge.block))
    exit.challenges
    else is_met (now (log_of events)) time (exit.start + CHALLENGE_WINDOW)
    && not (exit_has_look events w c e exit.block)

-- the event is such a tick for an exit of the coin, while the wallet holds it at e
abbrev pub goes_unseen : List Event → ℕ → ℕ → ℕ → Event → Bool
goes_unseen events w c e (Joins (Tick time)) =
    holds events w c e
    && option_map_or
    (λ me. list_any (λ exit. (exit.coin == c) && passes_unseen me events w c e time exit) (exits (log_of events)))
    (wallet_owner events w)
    false
goes_unseen events w c e event = false

-- no tick went unseen: the coin that the wallet held at e was looked after
unfoldable pub is_looked_after : List Event → ℕ → ℕ → ℕ → Bool
is_looked_after [] w c e = true
is_looked_after (event ∷ events) w c e = not (goes_unseen events w c e event) && is_looked_after events w c e

-- ---- looking often

-- the call is on an exit of the coin
abbrev pub is_on_coin : ℕ → RootCall → Bool
is_on_coin c call = coin_of_call call == c

-- A guardian watched less than the window of a challenge before this time, and each call for the coin that this watch
-- offered was fulfilled since.
unfoldable pub has_recent_look : ℕ → List RootCall → List Event → ℕ → ℕ → ℕ → Bool
has_recent_look time since [] w c e = false
has_recent_look time since (Joins call ∷ events) w c e = has_recent_look time (call ∷ since) events w c e
has_recent_look time since (Watches n offers ∷ events) w c e =
    (nat_lt time (now (log_of events) + RESPONSE_WINDOW) && is_guardian events w c e n
    && are_fulfilled (is_on_coin c) since offers)
    || has_recent_look time since events w c e
has_recent_look time since (event ∷ events) w c e = has_recent_look time since events w c e

-- an exit of the coin stands
abbrev pub is_exited : List Event → ℕ → Bool
is_exited events c = list_any (λ exit. exit.coin == c) (exits (log_of events))

-- at each tick while the wallet holds the coin at e and an exit of it stands, some such look is recent
unfoldable pub is_looked_often : List Event → ℕ → ℕ → ℕ → Bool
is_looked_often [] w c e = true
is_looked_often (Joins (Tick time) ∷ events) w c e =
    not (holds events w c e && is_exited events c && not (has_recent_look time [] events w c e))
    && is_looked_often events w c e
is_looked_often (event ∷ events) w c e = is_looked_often events w c e

-- ---- the laws

-- A held coin that is looked after is safe. At each line of a run: unless the trace up to it shows, at this coin, two
-- byte strings with one digest, or a signature that is valid under the wallet's key and that the wallet never made.
abbrev pub LookedAfterCoinsAreSafe : Type 0
LookedAfterCoinsAreSafe = (dig : List ℕ → List ℕ) (lines : List Line) (run : Run) (world : World)
    (later events : List Event) (event : Event) (w c e : ℕ)
    → IsRun dig lines run world → events_of run.entries ≡ later ++ event ∷ events
    → is_looked_after events w c e ≡ true
    → collides dig (event ∷ events) c ≡ false
    → is_forged world.chain.tag (event ∷ events) w c ≡ false
    → is_safe (tests_by dig) (rules_of world.chain) (event ∷ events) w c e ≡ true

-- what is attended is looked after, whatever the events are
abbrev pub AttendedCoinsAreLookedAfter : Type 0
AttendedCoinsAreLookedAfter = (events : List Event) (w c e : ℕ)
    → is_attended events w c e ≡ true → is_looked_after events w c e ≡ true

-- so is, in a run, what is looked at so often that some look is always recent while an exit of the coin stands
abbrev pub LookingOftenIsEnough : Type 0
LookingOftenIsEnough = (dig : List ℕ → List ℕ) (lines : List Line) (run : Run) (world : World)
    (later events : List Event) (w c e : ℕ)
    → IsRun dig lines run world → events_of run.entries ≡ later ++ events
    → is_looked_often events w c e ≡ true → is_looked_after events w c e ≡ true

-- the verdict is that the coin was taken
abbrev pub is_taken_kind : VerdictKind → Bool
is_taken_kind VerdictKind.Lost = true
is_taken_kind (VerdictKind.Unattended line) = true
is_taken_kind kind = false

-- a tick of the run at which the coin went unseen, while the wallet held it at the tip that the verdict is of
pub record WentUnseen (dig : List ℕ → List ℕ) (run : Run) (world : World) (verdict : Verdict) : Type 0 where
  pub held : IsOfHeld dig run world verdict
  pub later : List Event
  pub event : Event
  pub earlier : List Event
  pub events_are : events_of run.entries ≡ later ++ event ∷ earlier
  pub unseen : goes_unseen earlier held.number verdict.coin held.tip event ≡ true

-- A coin whose verdict is `lost` or `unattended` went unseen at some tick, or the trace exhibits.
abbrev pub TakenCoinsWentUnseen : Type 0
TakenCoinsWentUnseen = (dig : List ℕ → List ℕ) (lines : List Line) (run : Run) (world : World) (verdict : Verdict)
    → IsRun dig lines run world → Contains (verdicts_of dig run) verdict → is_taken_kind verdict.kind ≡ true
    → WentUnseen dig run world verdict ⊎ (exhibit_of_run dig run ≢ Exhibit.Nothing)
