-- A small chain with a wallet: it is begun, a run of it reads the log and watches, and it deposits a coin, which it
-- holds. So the laws of chains don't hold for want of one.
use Rattle.std.specs.Prelude.{◌≡◌, ℕ, true, false, List, [], ◌∷◌}
use Rattle.plasma_tx.specs.declared.owner.Owner.{Owner}
use Rattle.plasma_tx.specs.declared.call.RootCall.{RootCall}
use Rattle.plasma_tx.specs.Shown.{Rules}
use Rattle.node_lives.specs.Samples.{told, foretold, met}
use Rattle.world_rules.specs.Events.{Declares, Joins, Watches}
use Rattle.world_rules.specs.Exhibits.{collides, is_forged}
use Rattle.world_rules.specs.Safety.{holds}
use Rattle.world_laws.specs.Looked.{is_looked_after}
use Rattle.chain_lives.specs.Chains.{Steps, IsChain, events_in}

-- under a digest
pub record SmallChain (dig : List ℕ → List ℕ) : Type 0 where
  pub me : Owner
  pub rules : Rules
  pub steps : Steps told foretold met dig rules
  pub chain : IsChain told foretold met dig rules steps
  pub events : events_in told foretold met dig rules steps
      ≡ Joins (RootCall.Deposit me.account 5 me.key)
      ∷ Joins (RootCall.Fund me.account 5)
      ∷ Watches 1 []
      ∷ Declares 1 me
      ∷ []
  pub held : holds (events_in told foretold met dig rules steps) 1 1 1 ≡ true
  pub looked : is_looked_after (events_in told foretold met dig rules steps) 1 1 1 ≡ true
  -- and nothing is exhibited
  pub apart : collides dig (events_in told foretold met dig rules steps) 1 ≡ false
  pub unforged : is_forged rules.tag (events_in told foretold met dig rules steps) 1 1 ≡ false
