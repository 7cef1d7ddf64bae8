-- What holds of legal events holds of the events of a chain with its nodes, since these are legal.
use Rattle.std.proofs.Common.{ℕ, List, ◌++◌, Option, subst}
use Rattle.crash_disk.specs.Disk.{History, FaultPlan}
use Rattle.plasma_tx.specs.Shown.{Rules, tests_by}
use Rattle.world_rules.specs.Events.{Event}
use Rattle.world_laws.specs.Legal.{IsLegal}
use Rattle.world_laws.proofs.Promises.{suffix-legal}
use Rattle.money_laws.proofs.Tips.{tips_stay_open}
use Rattle.money_laws.proofs.Back.{bonds_come_back}
use Rattle.money_laws.proofs.OnOffer.{reserve_suffices}
use Rattle.money_laws.proofs.Timely.{timely_coins_are_safe}
use Rattle.money_laws.proofs.Ledger.{guarding_costs_nothing}
use Rattle.safety_laws.proofs.Runs.{looked_at_are_safe}
use Rattle.chain_lives.specs.Keeping.{ChainsAreLegal}
use Rattle.chain_laws.specs.Lives.{AreLived, LivesTipsStayOpen, LivesBondsComeBack, LivesReserveSuffices, LivesTimelyCoinsAreSafe, LivesGuardingCostsNothing, LivesLooksAreEnough}

module _ {D : Type 0} (told : D → Option History) (plan : D → Option FaultPlan) (faults : D → ℕ)
    (dig : List ℕ → List ℕ) (rules : Rules) (are-legal : ChainsAreLegal told plan faults dig rules) where
  legal : (events : List Event) → AreLived told plan faults dig rules events → IsLegal (tests_by dig) rules events
  legal events lived =
      suffix-legal (tests_by dig) rules lived.later events
      (subst (IsLegal (tests_by dig) rules) lived.are (are-legal lived.steps lived.chain))

  pub tips : LivesTipsStayOpen told plan faults dig rules
  tips events w c e lived = tips_stay_open dig rules events w c e lived.chain.digest (legal events lived)

  pub bonds : LivesBondsComeBack told plan faults dig rules
  bonds events call w c e block exit challenge lived =
      bonds_come_back dig rules events call w c e block exit challenge lived.chain.digest (legal _ lived)

  pub reserves : LivesReserveSuffices told plan faults dig rules
  reserves events account tips calls lived =
      reserve_suffices dig rules events account tips calls lived.chain.digest (legal events lived)

  pub timely : LivesTimelyCoinsAreSafe told plan faults dig rules
  timely event events w c e lived =
      timely_coins_are_safe dig rules event events w c e lived.chain.digest (legal _ lived)

  pub ledger : LivesGuardingCostsNothing told plan faults dig rules
  ledger later earlier account lived =
      guarding_costs_nothing dig rules later earlier account lived.chain.digest (legal (later ++ earlier) lived)

  pub looks : LivesLooksAreEnough told plan faults dig rules
  looks event seen first w c e lived =
      looked_at_are_safe dig rules event seen first w c e lived.chain.digest (legal _ lived)
