-- The events of a chain with its nodes are legal, so what holds of legal events holds of real lives: they keep their
-- coins.
use Rattle.std.specs.Prelude.{◌≡◌, ◌≢◌, ℕ, true, false, List, ◌∷◌, ◌++◌, Option, Some}
use Rattle.std.specs.List.{Contains}
use Rattle.crash_disk.specs.Disk.{History, FaultPlan}
use Rattle.plasma_tx.specs.declared.call.RootCall.{RootCall}
use Rattle.plasma_tx.specs.Shown.{Rules, tests_by}
use Rattle.plasma_tx.specs.Table.{answer_to, is_accepted}
use Rattle.node_replies.specs.Orders.{exit_block}
use Rattle.world_rules.specs.Events.{Event, coin_of_call, offers_of}
use Rattle.world_rules.specs.Exhibits.{collides, is_forged}
use Rattle.world_rules.specs.Safety.{holds, is_safe}
use Rattle.world_laws.specs.Headline.{lacks_bond, starter, IsTaken}
use Rattle.world_laws.specs.Legal.{IsLegal}
use Rattle.world_laws.specs.LegalLaws.{was_declared_before, fresh_offers}
use Rattle.world_laws.specs.Looked.{is_looked_after}
use Rattle.chain_lives.specs.Steps.{chain_of}
use Rattle.chain_lives.specs.Chains.{Steps, IsChain, events_in}

-- over disks that tell their history, foretell their faults and count them, under a digest, and of a contract with
-- these rules
module _ {D : Type 0} (told : D → Option History) (plan : D → Option FaultPlan) (faults : D → ℕ)
    (dig : List ℕ → List ℕ) (rules : Rules) where
  -- these steps are a chain with its nodes
  abbrev pub Chained : Steps told plan faults dig rules → Type 0
  Chained steps = IsChain told plan faults dig rules steps

  -- what happened, as events
  abbrev pub happened : Steps told plan faults dig rules → List Event
  happened steps = events_in told plan faults dig rules steps

  -- each event is legal after those before it
  abbrev pub ChainsAreLegal : Type 0
  ChainsAreLegal = (steps : Steps told plan faults dig rules) → Chained steps
      → IsLegal (tests_by dig) rules (happened steps)

  -- A coin that a wallet holds is safe at each event of a chain with its nodes, where it was looked after before:
  -- unless the events up to it show, at this coin, two byte strings with one digest, or a signature that is valid under
  -- the wallet's key and that the wallet never made.
  abbrev pub LivesKeepTheirCoins : Type 0
  LivesKeepTheirCoins = (steps : Steps told plan faults dig rules) (later events : List Event) (event : Event)
      (w c e : ℕ) → Chained steps → happened steps ≡ later ++ event ∷ events
      → is_looked_after events w c e ≡ true
      → collides dig (event ∷ events) c ≡ false
      → is_forged rules.tag (event ∷ events) w c ≡ false
      → is_safe (tests_by dig) rules (event ∷ events) w c e ≡ true

  -- two wallets that were begun before its deposit don't both hold a coin, unless the events exhibit
  abbrev pub LivesHoldApart : Type 0
  LivesHoldApart = (steps : Steps told plan faults dig rules) (v w c d e : ℕ) → Chained steps → v ≢ w
      → was_declared_before (happened steps) v c ≡ true → was_declared_before (happened steps) w c ≡ true
      → collides dig (happened steps) c ≡ false
      → is_forged rules.tag (happened steps) v c ≡ false → is_forged rules.tag (happened steps) w c ≡ false
      → holds (happened steps) v c d ≡ true → holds (happened steps) w c e ≡ true → ⊥

  -- A call that a watch offers is accepted where its node did nothing and no call was accepted since, unless it is a
  -- Before whose account doesn't have the money; where the events show no clash at its coin.
  abbrev pub LivesDueCallsAreTaken : Type 0
  LivesDueCallsAreTaken = (steps : Steps told plan faults dig rules) (n : ℕ) (call : RootCall) → Chained steps
      → Contains (fresh_offers (happened steps) n) call
      → collides dig (happened steps) (coin_of_call call) ≡ false
      → lacks_bond (chain_of steps) call ≡ false
      → is_accepted (answer_to (tests_by dig) rules (chain_of steps) call) ≡ true

  -- A start that a wallet's leave offers, by its last command, is taken while the wallet holds the coin at the exit's
  -- block, but where the exit stands or the money is missing.
  abbrev pub LivesStartsAreTaken : Type 0
  LivesStartsAreTaken = (steps : Steps told plan faults dig rules) (w account : ℕ) (call : RootCall) → Chained steps
      → Contains (offers_of (happened steps) w) call → starter call ≡ Some account
      → holds (happened steps) w (coin_of_call call) (exit_block call) ≡ true
      → IsTaken (chain_of steps) account call (answer_to (tests_by dig) rules (chain_of steps) call)
