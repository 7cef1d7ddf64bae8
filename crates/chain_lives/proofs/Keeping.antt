-- What holds of legal events holds of the events of a chain with its nodes.
use Rattle.std.proofs.Common.{◌≡◌, ℕ, List, ◌∷◌, Option, sym, ap, ◌∙◌, subst}
use Rattle.crash_disk.specs.Disk.{History, FaultPlan}
use Rattle.plasma_tx.specs.declared.call.RootCall.{RootCall}
use Rattle.plasma_tx.specs.Shown.{Rules, tests_by}
use Rattle.plasma_tx.specs.Table.{answer_to, is_accepted}
use Rattle.world_rules.specs.Events.{log_of}
use Rattle.world_laws.specs.Headline.{lacks_bond, IsTaken}
use Rattle.world_laws.specs.Legal.{IsLegal}
use Rattle.world_laws.proofs.Promises.{suffix-legal}
use Rattle.world_laws.proofs.Safe.{legal_coins_are_safe}
use Rattle.world_laws.proofs.OneHolder.{one_wallet_holds}
use Rattle.world_laws.proofs.DueTaken.{due_calls_are_taken}
use Rattle.world_laws.proofs.Starts.{starts_are_taken}
use Rattle.chain_lives.specs.Steps.{chain_of}
use Rattle.chain_lives.specs.Chains.{Steps}
use Rattle.chain_lives.specs.Keeping.{happened, LivesKeepTheirCoins, LivesHoldApart, LivesDueCallsAreTaken, LivesStartsAreTaken}
use Rattle.chain_lives.proofs.Log.{events_hold_the_chain}
use Rattle.chain_lives.proofs.AllLegal.{chains_are_legal}

module _ {D : Type 0} (told : D → Option History) (plan : D → Option FaultPlan) (faults : D → ℕ)
    (dig : List ℕ → List ℕ) (rules : Rules) where
  pub lives_keep_their_coins : LivesKeepTheirCoins told plan faults dig rules
  lives_keep_their_coins steps later events event w c e chain are looked apart unforged =
      legal_coins_are_safe dig rules event events w c e chain.digest
      (suffix-legal (tests_by dig) rules later (event ∷ events)
      (subst (IsLegal (tests_by dig) rules) are (chains_are_legal told plan faults dig rules steps chain))) looked apart
      unforged

  pub lives_hold_apart : LivesHoldApart told plan faults dig rules
  lives_hold_apart steps v w c d e chain =
      one_wallet_holds dig rules (happened told plan faults dig rules steps) v w c d e chain.digest
      (chains_are_legal told plan faults dig rules steps chain)

  log-same : (steps : Steps told plan faults dig rules)
      → log_of (happened told plan faults dig rules steps) ≡ chain_of steps
  log-same steps = events_hold_the_chain told plan faults dig rules steps

  pub lives_due_calls_are_taken : LivesDueCallsAreTaken told plan faults dig rules
  lives_due_calls_are_taken steps n call chain offered apart money =
      ap (λ log. is_accepted (answer_to (tests_by dig) rules log call)) (sym (log-same steps))
      ∙ due_calls_are_taken dig rules (happened told plan faults dig rules steps) n call chain.digest
      (chains_are_legal told plan faults dig rules steps chain) offered apart
      (ap (λ log. lacks_bond log call) (log-same steps) ∙ money)

  pub lives_starts_are_taken : LivesStartsAreTaken told plan faults dig rules
  lives_starts_are_taken steps w account call chain offered starts held =
      subst (λ (log : List RootCall). IsTaken log account call (answer_to (tests_by dig) rules log call))
      (log-same steps)
      (starts_are_taken dig rules (happened told plan faults dig rules steps) w account call
      (chains_are_legal told plan faults dig rules steps chain) offered starts held)
