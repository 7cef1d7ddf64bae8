-- What the events of a node's run leave of what was said before them.
use Rattle.std.proofs.Common.{◌≡◌, ℕ, ◌-◌, List, [], ◌∷◌, length, Option, refl, ◌∙◌, arith}
use Rattle.std.proofs.lemmas.Grind.{common_steps}
use Rattle.node_rules.specs.Wallet.{WalletRecords}
use Rattle.world_rules.specs.Events.{Event}
use Rattle.chain_lives.specs.Steps.{Deed, Visit, event_where, answered_events, run_events}
use Rattle.chain_lives.proofs.Log.{IsQuiet, AreQuiet, IsQuietVisit, where_quiet, without_quiet}
use Rattle.chain_lives.proofs.Entered.{late_same}

-- what each event of a node leaves, all events of its run do
module _ {A : Type 0} (of : List Event → A) (n : ℕ)
    (each : (event : Event) (events : List Event) → IsQuiet n event → of (event ∷ events) ≡ of events) where
  answered-same : (written : ℕ) (deeds : List Deed) (events : List Event) → AreQuiet n deeds
      → of (answered_events n written deeds events) ≡ of events
  unfolding answered_events
  answered-same written [] events quiet = refl
  answered-same written (deed ∷ deeds) events quiet =
      answered-same (written - length deed.text) deeds (event_where n written deed ∷ events) quiet.1
      ∙ each (event_where n written deed) events (where_quiet n written deed quiet.0)

  pub run-same : (found : Option WalletRecords) (visit : Visit) (events : List Event) → IsQuietVisit n visit
      → of (run_events n found visit events) ≡ of events
  run-same found visit events quiet = grind (arith, common_steps, late_same, without_quiet, answered-same) steps 20000
