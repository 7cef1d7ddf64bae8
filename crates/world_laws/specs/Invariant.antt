-- Why the coin that a wallet holds is safe: what holds of each exit of it that stands, from the line on at which the
-- wallet comes to hold it.
use Rattle.std.specs.Prelude.{◌≡◌, ◌≢◌, ℕ, ◌+◌, ◌<◌, ◌≤◌, true, false, List, ◌∷◌, ◌++◌, Some, is_none}
use Rattle.std.specs.List.{AllByRecursion, Contains}
use Rattle.plasma_tx.specs.{declared.rules.TheConstants.{CHALLENGE_WINDOW, RESPONSE_WINDOW}, declared.owner.Owner.{Owner}, Views.{now, Exit, exits, challenge_at}, Shown.{tests_by, rules_of}}
use Rattle.schedule_text.specs.declared.line.Line.{Line}
use Rattle.world_rules.specs.{Events.{Event, log_of, wallet_owner}, World.{World}, Steps.{Run, events_of}, Exhibits.{collides, is_forged}, Safety.{holds, is_mine, is_harmed}}
use Rattle.world_laws.specs.{Headline.{IsRun}, Looked.{goes_unseen, is_looked_after}}

-- what holds of each standing exit of the coin while it is held at e
pub record IsWatched (me : Owner) (e time : ℕ) (x : Exit) : Type 0 where
  -- it doesn't spend the tip
  pub unspent : x.parent ≢ e
  -- no challenge at the tip is answered
  pub open_tip : AllByRecursion (λ ch. ch.block ≡ e → ch.answered ≡ false) x.challenges
  -- past its window, an exit of another account is challenged at the tip
  pub in_time : is_mine me x ≡ false → x.start + CHALLENGE_WINDOW ≤ time
      → is_none (challenge_at e x.challenges) ≡ false
  -- the own exit is at the tip
  pub own_block : is_mine me x ≡ true → x.block ≡ e
  -- no open challenge of the own exit at the tip is past its window
  pub own_time : is_mine me x ≡ true → x.block ≡ e
      → AllByRecursion (λ ch. ch.answered ≡ false → time < ch.at + RESPONSE_WINDOW) x.challenges

abbrev pub IfOf : ℕ → Owner → ℕ → ℕ → Exit → Type 0
IfOf c me e time x = x.coin ≡ c → IsWatched me e time x

abbrev pub AllWatched : ℕ → Owner → ℕ → ℕ → List Exit → Type 0
AllWatched c me e time xs = AllByRecursion (IfOf c me e time) xs

-- The invariant: so it is, behind these events, of each exit of the coin that stands.
abbrev pub ExitsAreWatched : List Event → Owner → ℕ → ℕ → Type 0
ExitsAreWatched events me c e = AllWatched c me e (now (log_of events)) (exits (log_of events))

-- ---- the laws, of each line of a run

-- A wallet comes to hold a coin at a line behind which no exit of it stands.
abbrev pub HoldersBeginWithNoExit : Type 0
HoldersBeginWithNoExit = (dig : List ℕ → List ℕ) (lines : List Line) (run : Run) (world : World)
    (later events : List Event) (event : Event) (w c e : ℕ)
    → IsRun dig lines run world → events_of run.entries ≡ later ++ event ∷ events
    → holds events w c e ≡ false → holds (event ∷ events) w c e ≡ true
    → (x : Exit) → Contains (exits (log_of (event ∷ events))) x → x.coin ≢ c

-- While it holds the coin each line keeps the invariant, unless it is a tick past a deadline behind which nobody
-- looked, or the trace up to it shows, at this coin, two byte strings with one digest, or a signature that is valid
-- under the wallet's key and that the wallet never made.
abbrev pub LinesKeepExitsWatched : Type 0
LinesKeepExitsWatched = (dig : List ℕ → List ℕ) (lines : List Line) (run : Run) (world : World)
    (later events : List Event) (event : Event) (me : Owner) (w c e : ℕ)
    → IsRun dig lines run world → events_of run.entries ≡ later ++ event ∷ events
    → wallet_owner events w ≡ Some me → holds events w c e ≡ true
    → goes_unseen events w c e event ≡ false
    → collides dig (event ∷ events) c ≡ false
    → is_forged world.chain.tag (event ∷ events) w c ≡ false
    → ExitsAreWatched events me c e → ExitsAreWatched (event ∷ events) me c e

-- Where it holds, a line that shows neither harms nobody: no exit of another account is paid, and the own exit isn't
-- cancelled or dropped, and pays where it is finished at its end.
abbrev pub WatchedExitsDoNoHarm : Type 0
WatchedExitsDoNoHarm = (dig : List ℕ → List ℕ) (lines : List Line) (run : Run) (world : World)
    (later events : List Event) (event : Event) (me : Owner) (w c e : ℕ)
    → IsRun dig lines run world → events_of run.entries ≡ later ++ event ∷ events
    → wallet_owner events w ≡ Some me
    → collides dig (event ∷ events) c ≡ false
    → is_forged world.chain.tag (event ∷ events) w c ≡ false
    → ExitsAreWatched events me c e
    → is_harmed (tests_by dig) (rules_of world.chain) events w c e event ≡ false

-- So it holds at each line at which a wallet holds a coin that was looked after, unless the trace shows one of the two.
abbrev pub HeldCoinsAreWatched : Type 0
HeldCoinsAreWatched = (dig : List ℕ → List ℕ) (lines : List Line) (run : Run) (world : World)
    (later events : List Event) (me : Owner) (w c e : ℕ)
    → IsRun dig lines run world → events_of run.entries ≡ later ++ events
    → wallet_owner events w ≡ Some me → holds events w c e ≡ true
    → is_looked_after events w c e ≡ true
    → collides dig events c ≡ false
    → is_forged world.chain.tag events w c ≡ false
    → ExitsAreWatched events me c e
