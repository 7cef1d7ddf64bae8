-- A small chain with a wallet and a cut: it is begun, a run of it reads the log and watches, power is lost as that run
-- ends, and it deposits a coin, which it holds. So the laws of chains with cuts don't hold for want of one.
use Rattle.std.specs.Prelude.{◌≡◌, ℕ, true, false, List, [], ◌∷◌}
use Rattle.plasma_tx.specs.declared.owner.Owner.{Owner}
use Rattle.plasma_tx.specs.declared.call.RootCall.{RootCall}
use Rattle.plasma_tx.specs.Shown.{Rules}
use Rattle.node_lives.specs.Cuts.{Cut, Ended, CutOff}
use Rattle.node_lives.specs.Samples.{told, foretold, met, DriveCall}
use Rattle.world_rules.specs.Events.{Declares, Joins, Watches}
use Rattle.world_rules.specs.Exhibits.{collides, is_forged}
use Rattle.world_rules.specs.Safety.{holds}
use Rattle.world_laws.specs.Looked.{is_looked_after}
use Rattle.chain_lives.specs.Steps.{Enters, Does}
use Rattle.chain_lives.specs.CutChains.{CutSteps, IsChainWithCuts, events_with_cuts}

-- Under a digest: the answer to the watch was written before power was lost, so the watch counts.
pub record SmallChainWithCut (dig : List ℕ → List ℕ) : Type 0 where
  pub me : Owner
  pub rules : Rules
  pub begun : DriveCall dig
  pub cut : Cut told foretold met dig
  pub steps : CutSteps told foretold met dig rules
  pub steps_are : steps
      ≡ Enters (RootCall.Deposit me.account 5 me.key)
      ∷ Enters (RootCall.Fund me.account 5)
      ∷ Does 1 (CutOff cut)
      ∷ Does 1 (Ended begun)
      ∷ []
  pub chain : IsChainWithCuts told foretold met dig rules steps
  pub events : events_with_cuts told foretold met dig rules steps
      ≡ Joins (RootCall.Deposit me.account 5 me.key)
      ∷ Joins (RootCall.Fund me.account 5)
      ∷ Watches 1 []
      ∷ Declares 1 me
      ∷ []
  pub held : holds (events_with_cuts told foretold met dig rules steps) 1 1 1 ≡ true
  pub looked : is_looked_after (events_with_cuts told foretold met dig rules steps) 1 1 1 ≡ true
  -- and nothing is exhibited
  pub apart : collides dig (events_with_cuts told foretold met dig rules steps) 1 ≡ false
  pub unforged : is_forged rules.tag (events_with_cuts told foretold met dig rules steps) 1 1 ≡ false
