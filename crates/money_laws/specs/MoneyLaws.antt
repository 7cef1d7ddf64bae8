-- What guarding takes in money, over every list of legal events; and, since a run's events are legal, over every run.
use Rattle.std.specs.Prelude.{◌≡◌, ◌≢◌, ◌⊎◌, ℕ, ◌+◌, ◌*◌, ◌≤◌, ◌==◌, ◌&&◌, ◌||◌, not, Bool, true, false, if◌then◌else◌, is_none, List, [], ◌∷◌, ◌++◌, Some}
use Rattle.std.specs.List.{Contains, list_any}
use Rattle.std.specs.Option.{option_map_or}
use Rattle.plasma_tx.specs.declared.rules.TheConstants.{EXIT_BOND, CHALLENGE_BOND, EXIT_PERIOD}
use Rattle.plasma_tx.specs.declared.owner.Owner.{Owner}
use Rattle.plasma_tx.specs.declared.call.RootCall.{RootCall}
use Rattle.plasma_tx.specs.declared.call.RootCall.TheVariants.{After, Between, Before, Respond, Finish}
use Rattle.plasma_tx.specs.Laws.{is_end}
use Rattle.plasma_tx.specs.Views.{now, Challenge, Exit, exits, exit_at, challenge_at, block_of}
use Rattle.plasma_tx.specs.Shown.{Tests, Rules, tests_by, rules_of}
use Rattle.plasma_tx.specs.declared.answer.Answer.TheVariants.{Paid}
use Rattle.plasma_tx.specs.RuleLaws.{is_paid, is_of_exit}
use Rattle.plasma_tx.specs.Table.{answer_to, is_accepted, log_after}
use Rattle.plasma_tx.specs.Money.{open_challenges, balance_of}
use Rattle.schedule_text.specs.declared.line.Line.{Line}
use Rattle.world_rules.specs.Laws.{IsDigest}
use Rattle.world_rules.specs.Events.{Event, Joins, log_of, coin_of_call, wallet_owner}
use Rattle.world_rules.specs.World.{World}
use Rattle.world_rules.specs.Steps.{Run, events_of}
use Rattle.world_rules.specs.Exhibits.{collides, is_forged}
use Rattle.world_rules.specs.Safety.{holds, is_mine, is_safe}
use Rattle.world_laws.specs.Headline.{IsRun}
use Rattle.world_laws.specs.Legal.{starts_by, deposits_by, IsLegal}
use Rattle.world_laws.specs.LegalLaws.{fresh_offers}
use Rattle.world_laws.specs.Looked.{is_looked_after}
use Rattle.money_laws.specs.Bonds.{staked}
use Rattle.money_laws.specs.Reserve.{Tip, reserve_of, is_at_tip}
use Rattle.money_laws.specs.First.{is_ripe, is_missed, has_led, ends_first}
use Rattle.money_laws.specs.Keepers.{IsKeeper}

-- ---- bonds come back

-- When the call ends the exit, the challenge is open: its bond goes back to the account that made it, and a Finish
-- pays nobody the coin.
pub record ComesBack (tests : Tests) (rules : Rules) (log : List RootCall) (call : RootCall) (exit : Exit)
    (challenge : Challenge) : Type 0 where
  pub is_open : Contains (open_challenges exit) challenge
  pub back : balance_of log challenge.by + CHALLENGE_BOND ≤ balance_of (call ∷ log) challenge.by
  pub unpaid : is_paid (answer_to tests rules log call) ≡ false

-- So it is of each challenge at e of an exit of a coin that a wallet keeps at e, by whatever call the exit ends.
abbrev pub LegalBondsComeBack : Type 0
LegalBondsComeBack = (dig : List ℕ → List ℕ) (rules : Rules) (events : List Event) (call : RootCall)
    (w c e block : ℕ) (exit : Exit) (challenge : Challenge)
    → IsDigest dig → IsLegal (tests_by dig) rules (Joins call ∷ events)
    → IsKeeper dig rules.tag (Joins call) events w c e
    → exit_at (log_of events) c block ≡ Some exit → is_end c block call ≡ true
    → Contains exit.challenges challenge → challenge.block ≡ e
    → ComesBack (tests_by dig) rules (log_of events) call exit challenge

-- at each line of a run
abbrev pub BondsComeBack : Type 0
BondsComeBack = (dig : List ℕ → List ℕ) (lines : List Line) (run : Run) (world : World) (later events : List Event)
    (call : RootCall) (w c e block : ℕ) (exit : Exit) (challenge : Challenge)
    → IsRun dig lines run world → events_of run.entries ≡ later ++ Joins call ∷ events
    → IsKeeper dig world.chain.tag (Joins call) events w c e
    → exit_at (log_of events) c block ≡ Some exit → is_end c block call ≡ true
    → Contains exit.challenges challenge → challenge.block ≡ e
    → ComesBack (tests_by dig) (rules_of world.chain) (log_of events) call exit challenge

-- the call cancels an exit
abbrev pub cancels : RootCall → Bool
cancels (After account c block spend) = true
cancels (Between account c block spend) = true
cancels call = false

-- An After or a Between that a watch offers is accepted where no call was accepted since, whatever its account has;
-- where the events show no clash at its coin.
abbrev pub LegalCancelsNeedNoMoney : Type 0
LegalCancelsNeedNoMoney = (dig : List ℕ → List ℕ) (rules : Rules) (events : List Event) (n : ℕ) (call : RootCall)
    → IsDigest dig → IsLegal (tests_by dig) rules events → Contains (fresh_offers events n) call
    → cancels call ≡ true → collides dig events (coin_of_call call) ≡ false
    → is_accepted (answer_to (tests_by dig) rules (log_of events) call) ≡ true

-- at each line of a run
abbrev pub CancelsNeedNoMoney : Type 0
CancelsNeedNoMoney = (dig : List ℕ → List ℕ) (lines : List Line) (run : Run) (world : World)
    (later events : List Event) (n : ℕ) (call : RootCall)
    → IsRun dig lines run world → events_of run.entries ≡ later ++ events → Contains (fresh_offers events n) call
    → cancels call ≡ true → collides dig events (coin_of_call call) ≡ false
    → is_accepted (answer_to (tests_by dig) (rules_of world.chain) (log_of events) call) ≡ true

-- ---- the reserve

-- the call is a Before by the account at one of these tips
abbrev pub is_before_at : ℕ → List Tip → RootCall → Bool
is_before_at account tips (Before by c block shown) =
    (by == account) && list_any (is_at_tip c (block_of shown)) tips
is_before_at account tips call = false

-- the Befores are of one exit at one block
abbrev pub is_same_before : RootCall → RootCall → Bool
is_same_before (Before one c block shown) (Before other k f offered) =
    (c == k) && (block == f) && (block_of shown == block_of offered)
is_same_before call other = false

-- The call is a Before of the account at one of the tips, which some node's watch offers, where no call was accepted
-- since and the events show no clash at its coin. None of the later ones is of the same exit at the same block.
pub record IsOnOffer (dig : List ℕ → List ℕ) (events : List Event) (account : ℕ) (tips : List Tip) (call : RootCall)
    (later : List RootCall) : Type 0 where
  pub at_tip : is_before_at account tips call ≡ true
  pub node : ℕ
  pub offered : Contains (fresh_offers events node) call
  pub whole : collides dig events (coin_of_call call) ≡ false
  pub once : list_any (is_same_before call) later ≡ false

-- the call is an After, a Between or a Respond, which takes no money
abbrev pub is_free : RootCall → Bool
is_free (After account c block spend) = true
is_free (Between account c block spend) = true
is_free (Respond account c block challenged spend) = true
is_free call = false

-- the other call is a Before of the exit that the call names
abbrev pub is_before_of : RootCall → RootCall → Bool
is_before_of call (Before account c block shown) = is_of_exit c block call
is_before_of call other = false

-- Each of the calls is such a Before; or an After, a Between or a Respond, of an exit that no later Before is of.
unfoldable pub AreOnOffer : (List ℕ → List ℕ) → List Event → ℕ → List Tip → List RootCall → Type 0
AreOnOffer dig events account tips [] = Unit {0}
AreOnOffer dig events account tips (call ∷ calls) =
    (IsOnOffer dig events account tips call calls
    ⊎ ((is_free call ≡ true) × (list_any (is_before_of call) calls ≡ false)))
    × AreOnOffer dig events account tips calls

-- the call is a Before
abbrev pub is_before : RootCall → Bool
is_before (Before account c block shown) = true
is_before call = false

-- Each Before among the calls is accepted, where they are entered one after the other.
unfoldable pub BeforesAreAccepted : Tests → Rules → List RootCall → List RootCall → Type 0
BeforesAreAccepted tests rules log [] = Unit {0}
BeforesAreAccepted tests rules log (call ∷ calls) =
    (is_before call ≡ true → is_accepted (answer_to tests rules log call) ≡ true)
    × BeforesAreAccepted tests rules (log_after tests rules log call) calls

-- Where the account has the reserve of the tips, each Before on offer there is accepted, entered one after the other
-- in whatever order, with such other calls between them.
abbrev pub LegalReserveSuffices : Type 0
LegalReserveSuffices = (dig : List ℕ → List ℕ) (rules : Rules) (events : List Event) (account : ℕ)
    (tips : List Tip) (calls : List RootCall)
    → IsDigest dig → IsLegal (tests_by dig) rules events → AreOnOffer dig events account tips calls
    → reserve_of (log_of events) tips ≤ balance_of (log_of events) account
    → BeforesAreAccepted (tests_by dig) rules (log_of events) calls

-- at each line of a run
abbrev pub ReserveSuffices : Type 0
ReserveSuffices = (dig : List ℕ → List ℕ) (lines : List Line) (run : Run) (world : World) (later events : List Event)
    (account : ℕ) (tips : List Tip) (calls : List RootCall)
    → IsRun dig lines run world → events_of run.entries ≡ later ++ events → AreOnOffer dig events account tips calls
    → reserve_of (log_of events) tips ≤ balance_of (log_of events) account
    → BeforesAreAccepted (tests_by dig) (rules_of world.chain) (log_of events) calls

-- ---- leaving first

-- An exit that has led since it began, and has reached its end, is paid by whoever finishes it, at each line of a run.
abbrev pub LeadersOfRunsArePaid : Type 0
LeadersOfRunsArePaid = (dig : List ℕ → List ℕ) (lines : List Line) (run : Run) (world : World)
    (later events : List Event) (account c e : ℕ) (exit : Exit)
    → IsRun dig lines run world → events_of run.entries ≡ later ++ events
    → exit_at (log_of events) c e ≡ Some exit → has_led (log_of events) c e ≡ true
    → exit.start + EXIT_PERIOD ≤ now (log_of events)
    → answer_to (tests_by dig) (rules_of world.chain) (log_of events) (Finish account c e) ≡ Paid

-- An exit that ends first, and whose own challenges were answered in time, is paid by whoever finishes it at its end,
-- at each line of a run.
abbrev pub FirstsOfRunsArePaid : Type 0
FirstsOfRunsArePaid = (dig : List ℕ → List ℕ) (lines : List Line) (run : Run) (world : World)
    (later events : List Event) (account c e : ℕ) (exit : Exit)
    → IsRun dig lines run world → events_of run.entries ≡ later ++ events
    → exit_at (log_of events) c e ≡ Some exit → exit.start + EXIT_PERIOD ≤ now (log_of events)
    → ends_first (now (log_of events)) (log_of events) c e ≡ true
    → list_any (is_missed (now (log_of events))) exit.challenges ≡ false
    → answer_to (tests_by dig) (rules_of world.chain) (log_of events) (Finish account c e) ≡ Paid

-- The exit comes too late for the owner of the coin at e: it is another account's, which nobody challenged at e, and is
-- ripe; or it is the owner's at e, and a challenge of it wasn't answered in time.
abbrev pub is_late : Owner → ℕ → ℕ → Exit → Bool
is_late me e time exit =
    if is_mine me exit then (exit.block == e) && list_any (is_missed time) exit.challenges
    else is_none (challenge_at e exit.challenges) && is_ripe time exit

-- one of the coin's exits does so, while the wallet holds it at e
abbrev pub goes_late : List Event → ℕ → ℕ → ℕ → Bool
goes_late events w c e =
    holds events w c e
    && option_map_or
    (λ me. list_any (λ exit. (exit.coin == c) && is_late me e (now (log_of events)) exit) (exits (log_of events)))
    (wallet_owner events w)
    false

-- none ever did
unfoldable pub is_in_time : List Event → ℕ → ℕ → ℕ → Bool
is_in_time [] w c e = true
is_in_time (event ∷ events) w c e = not (goes_late (event ∷ events) w c e) && is_in_time events w c e

-- What is looked after comes in time, unless the events exhibit; so it is less to ask that no exit comes too late.
abbrev pub LegalLookedAfterIsInTime : Type 0
LegalLookedAfterIsInTime = (dig : List ℕ → List ℕ) (rules : Rules) (events : List Event) (w c e : ℕ)
    → IsDigest dig → IsLegal (tests_by dig) rules events → is_looked_after events w c e ≡ true
    → collides dig events c ≡ false → is_forged rules.tag events w c ≡ false → is_in_time events w c e ≡ true

-- at each line of a run
abbrev pub LookedAfterIsInTime : Type 0
LookedAfterIsInTime = (dig : List ℕ → List ℕ) (lines : List Line) (run : Run) (world : World)
    (later events : List Event) (w c e : ℕ)
    → IsRun dig lines run world → events_of run.entries ≡ later ++ events → is_looked_after events w c e ≡ true
    → collides dig events c ≡ false → is_forged world.chain.tag events w c ≡ false
    → is_in_time events w c e ≡ true

-- A held coin is safe while no exit comes too late: so also where the own exit is finished before another one is ripe,
-- though nobody challenged that one.
abbrev pub LegalTimelyCoinsAreSafe : Type 0
LegalTimelyCoinsAreSafe = (dig : List ℕ → List ℕ) (rules : Rules) (event : Event) (events : List Event) (w c e : ℕ)
    → IsDigest dig → IsLegal (tests_by dig) rules (event ∷ events) → is_in_time events w c e ≡ true
    → collides dig (event ∷ events) c ≡ false → is_forged rules.tag (event ∷ events) w c ≡ false
    → is_safe (tests_by dig) rules (event ∷ events) w c e ≡ true

-- at each line of a run
abbrev pub TimelyCoinsAreSafe : Type 0
TimelyCoinsAreSafe = (dig : List ℕ → List ℕ) (lines : List Line) (run : Run) (world : World)
    (later events : List Event) (event : Event) (w c e : ℕ)
    → IsRun dig lines run world → events_of run.entries ≡ later ++ event ∷ events → is_in_time events w c e ≡ true
    → collides dig (event ∷ events) c ≡ false → is_forged world.chain.tag (event ∷ events) w c ≡ false
    → is_safe (tests_by dig) (rules_of world.chain) (event ∷ events) w c e ≡ true

-- ---- a guardian's ledger

-- the call cancels an exit and is the account's, or ends one whose bond goes to the account, since its open challenge
-- stands first
abbrev pub stands_first : ℕ → List Challenge → Bool
stands_first account [] = false
stands_first account (challenge ∷ challenges) = challenge.by == account

abbrev pub wins : List RootCall → ℕ → RootCall → Bool
wins log account (After by c block spend) = by == account
wins log account (Between by c block spend) = by == account
wins log account (Finish by c block) =
    option_map_or (λ exit. stands_first account (open_challenges exit)) (exit_at log c block) false
wins log account call = false

-- how often so, in the later events
unfoldable pub wins_in : List Event → List Event → ℕ → ℕ
wins_in [] earlier account = 0
wins_in (Joins call ∷ later) earlier account =
    (if wins (log_of (later ++ earlier)) account call then 1 else 0) + wins_in later earlier account
wins_in (event ∷ later) earlier account = wins_in later earlier account

-- the event is a Deposit by the account, or a start of its exit
abbrev pub invests : ℕ → Event → Bool
invests account (Joins call) = deposits_by account call || starts_by account call
invests account event = false

-- The account only guards at the event: it makes no Deposit and starts no exit, and each challenge of it that is open
-- before the event is of a coin that some wallet keeps at the challenged block.
pub record OnlyGuards (dig : List ℕ → List ℕ) (tag : List ℕ) (event : Event) (events : List Event) (account : ℕ)
    : Type 0 where
  pub no_start : invests account event ≡ false
  pub for_keepers : (exit : Exit) (challenge : Challenge) → Contains (exits (log_of events)) exit
      → Contains exit.challenges challenge → challenge.by ≡ account → challenge.answered ≡ false
      → (w : ℕ) × IsKeeper dig tag event events w exit.coin challenge.block

-- at each of the later events
unfoldable pub OnlyGuarded : (List ℕ → List ℕ) → List ℕ → List Event → List Event → ℕ → Type 0
OnlyGuarded dig tag [] earlier account = Unit {0}
OnlyGuarded dig tag (event ∷ later) earlier account =
    OnlyGuards dig tag event (later ++ earlier) account × OnlyGuarded dig tag later earlier account

-- An account that only guarded has, with what it has at stake, at least what it had; and 100 more for each exit that
-- it cancelled, or that was finished with its open challenge first.
abbrev pub LegalGuardingCostsNothing : Type 0
LegalGuardingCostsNothing = (dig : List ℕ → List ℕ) (rules : Rules) (later earlier : List Event) (account : ℕ)
    → IsDigest dig → IsLegal (tests_by dig) rules (later ++ earlier)
    → OnlyGuarded dig rules.tag later earlier account
    → balance_of (log_of earlier) account + staked (log_of earlier) account
    + EXIT_BOND * wins_in later earlier account
    ≤ balance_of (log_of (later ++ earlier)) account + staked (log_of (later ++ earlier)) account

-- between any two lines of a run
abbrev pub GuardingCostsNothing : Type 0
GuardingCostsNothing = (dig : List ℕ → List ℕ) (lines : List Line) (run : Run) (world : World)
    (rest later earlier : List Event) (account : ℕ)
    → IsRun dig lines run world → events_of run.entries ≡ rest ++ (later ++ earlier)
    → OnlyGuarded dig world.chain.tag later earlier account
    → balance_of (log_of earlier) account + staked (log_of earlier) account
    + EXIT_BOND * wins_in later earlier account
    ≤ balance_of (log_of (later ++ earlier)) account + staked (log_of (later ++ earlier)) account

-- So where no exit that it challenged stands any more, its balance is at least what it was.
abbrev pub LegalGuardiansHaveTheirMoney : Type 0
LegalGuardiansHaveTheirMoney = (dig : List ℕ → List ℕ) (rules : Rules) (later earlier : List Event) (account : ℕ)
    → IsDigest dig → IsLegal (tests_by dig) rules (later ++ earlier)
    → OnlyGuarded dig rules.tag later earlier account
    → ((exit : Exit) (challenge : Challenge) → Contains (exits (log_of (later ++ earlier))) exit
    → Contains exit.challenges challenge → challenge.by ≢ account)
    → balance_of (log_of earlier) account + EXIT_BOND * wins_in later earlier account
    ≤ balance_of (log_of (later ++ earlier)) account

-- between any two lines of a run
abbrev pub GuardiansHaveTheirMoney : Type 0
GuardiansHaveTheirMoney = (dig : List ℕ → List ℕ) (lines : List Line) (run : Run) (world : World)
    (rest later earlier : List Event) (account : ℕ)
    → IsRun dig lines run world → events_of run.entries ≡ rest ++ (later ++ earlier)
    → OnlyGuarded dig world.chain.tag later earlier account
    → ((exit : Exit) (challenge : Challenge) → Contains (exits (log_of (later ++ earlier))) exit
    → Contains exit.challenges challenge → challenge.by ≢ account)
    → balance_of (log_of earlier) account + EXIT_BOND * wins_in later earlier account
    ≤ balance_of (log_of (later ++ earlier)) account
