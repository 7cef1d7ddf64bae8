-- What guarding takes in money, and what a look says, of a chain with its nodes: of wallets and watchers over their
-- disks, run after run.
use Rattle.std.specs.Prelude.{◌≡◌, ℕ, ◌+◌, ◌*◌, ◌≤◌, true, false, List, ◌∷◌, ◌++◌, Option, Some}
use Rattle.std.specs.List.{Contains}
use Rattle.crash_disk.specs.Disk.{History, FaultPlan}
use Rattle.plasma_tx.specs.declared.rules.TheConstants.{EXIT_BOND}
use Rattle.plasma_tx.specs.declared.call.RootCall.{RootCall}
use Rattle.plasma_tx.specs.Laws.{is_end}
use Rattle.plasma_tx.specs.Views.{Challenge, Exit, exit_at}
use Rattle.plasma_tx.specs.Shown.{Rules, tests_by}
use Rattle.plasma_tx.specs.Money.{balance_of}
use Rattle.world_rules.specs.Events.{Event, Joins, log_of}
use Rattle.world_rules.specs.Exhibits.{collides, is_forged}
use Rattle.world_rules.specs.Safety.{is_safe}
use Rattle.money_laws.specs.Bonds.{staked}
use Rattle.money_laws.specs.Reserve.{Tip, reserve_of}
use Rattle.money_laws.specs.Keepers.{keeps, IsKeeper, AreOpenAt}
use Rattle.money_laws.specs.MoneyLaws.{ComesBack, AreOnOffer, BeforesAreAccepted, is_in_time, wins_in, OnlyGuarded}
use Rattle.safety_laws.specs.Safe.{Look, events_after, AreLooks}
use Rattle.chain_lives.specs.Chains.{Steps, IsChain, events_in}

-- over disks that tell their history, foretell their faults and count them, under a digest, and of a contract with
-- these rules
module _ {D : Type 0} (told : D → Option History) (plan : D → Option FaultPlan) (faults : D → ℕ)
    (dig : List ℕ → List ℕ) (rules : Rules) where
  -- these are the events of a chain with its nodes, up to some moment
  pub record AreLived (events : List Event) : Type 0 where
    pub steps : Steps told plan faults dig rules
    pub chain : IsChain told plan faults dig rules steps
    pub later : List Event
    pub are : events_in told plan faults dig rules steps ≡ later ++ events

  -- ---- money

  -- No challenge at a tip that a wallet keeps is answered, unless the events exhibit.
  abbrev pub LivesTipsStayOpen : Type 0
  LivesTipsStayOpen = (events : List Event) (w c e : ℕ)
      → AreLived events → keeps events w c e ≡ true
      → collides dig events c ≡ false → is_forged rules.tag events w c ≡ false → AreOpenAt (log_of events) c e

  -- So its bond comes back, by whatever call the exit ends, and the exit isn't paid.
  abbrev pub LivesBondsComeBack : Type 0
  LivesBondsComeBack = (events : List Event) (call : RootCall) (w c e block : ℕ) (exit : Exit) (challenge : Challenge)
      → AreLived (Joins call ∷ events) → IsKeeper dig rules.tag (Joins call) events w c e
      → exit_at (log_of events) c block ≡ Some exit → is_end c block call ≡ true
      → Contains exit.challenges challenge → challenge.block ≡ e
      → ComesBack (tests_by dig) rules (log_of events) call exit challenge

  -- With the reserve each Before on offer is accepted, entered one after the other.
  abbrev pub LivesReserveSuffices : Type 0
  LivesReserveSuffices = (events : List Event) (account : ℕ) (tips : List Tip) (calls : List RootCall)
      → AreLived events → AreOnOffer dig events account tips calls
      → reserve_of (log_of events) tips ≤ balance_of (log_of events) account
      → BeforesAreAccepted (tests_by dig) rules (log_of events) calls

  -- A coin is safe while none of its exits comes too late, though nobody entered a Before; unless the events exhibit.
  abbrev pub LivesTimelyCoinsAreSafe : Type 0
  LivesTimelyCoinsAreSafe = (event : Event) (events : List Event) (w c e : ℕ)
      → AreLived (event ∷ events) → is_in_time events w c e ≡ true
      → collides dig (event ∷ events) c ≡ false → is_forged rules.tag (event ∷ events) w c ≡ false
      → is_safe (tests_by dig) rules (event ∷ events) w c e ≡ true

  -- Who only guards has at least what he had, and 100 more for each exit that he cancelled, or whose bond went to him.
  abbrev pub LivesGuardingCostsNothing : Type 0
  LivesGuardingCostsNothing = (later earlier : List Event) (account : ℕ)
      → AreLived (later ++ earlier) → OnlyGuarded dig rules.tag later earlier account
      → balance_of (log_of earlier) account + staked (log_of earlier) account
      + EXIT_BOND * wins_in later earlier account
      ≤ balance_of (log_of (later ++ earlier)) account + staked (log_of (later ++ earlier)) account

  -- ---- looks

  -- A coin is safe for who looks again while the last look goes, unless the events exhibit.
  abbrev pub LivesLooksAreEnough : Type 0
  LivesLooksAreEnough = (event : Event) (looks : List Look) (first : List Event) (w c e : ℕ)
      → AreLived (event ∷ events_after looks first)
      → AreLooks dig rules w c e looks first → is_in_time first w c e ≡ true
      → collides dig (event ∷ events_after looks first) c ≡ false
      → is_forged rules.tag (event ∷ events_after looks first) w c ≡ false
      → is_safe (tests_by dig) rules (event ∷ events_after looks first) w c e ≡ true
