-- A chain with the lives of its nodes, in which calls of the program may be cut off within, as by a loss of power.
use Rattle.std.specs.Prelude.{◌≡◌, ◌≢◌, ℕ, ◌==◌, true, false, if◌then◌else◌, List, [], ◌∷◌, ◌++◌, Option}
use Rattle.crash_disk.specs.Disk.{History, FaultPlan}
use Rattle.plasma_tx.specs.Shown.{Rules, tests_by}
use Rattle.node_replies.specs.Roles.{Role}
use Rattle.node_lives.specs.Calls.{Call}
use Rattle.node_lives.specs.Laws.{Begins as BeginsNode}
use Rattle.node_lives.specs.Cuts.{LifeStep, Ended, call_in, IsLifeWithCuts}
use Rattle.world_rules.specs.Events.{Event}
use Rattle.world_rules.specs.Exhibits.{collides, is_forged}
use Rattle.world_rules.specs.Laws.{IsDigest}
use Rattle.world_rules.specs.Safety.{is_safe}
use Rattle.world_laws.specs.Looked.{is_looked_after}
use Rattle.chain_lives.specs.Steps.{Step, Enters, Refuses, Does}
use Rattle.chain_lives.specs.Chains.{Steps, events_in, KeepsTo, IsChain}

-- over disks that tell their history, foretell their faults and count them, under a digest, and of a contract with
-- these rules
module _ {D : Type 0} (told : D → Option History) (plan : D → Option FaultPlan) (faults : D → ℕ)
    (dig : List ℕ → List ℕ) (rules : Rules) where
  -- a chain and the calls of the program by its nodes, which ended or were cut off, the newest first
  abbrev pub CutSteps : Type 0
  CutSteps = List (Step (LifeStep told plan faults dig))

  -- the same with each call that was cut off as the one as which it is taken
  unfoldable pub taken : CutSteps → Steps told plan faults dig rules
  taken [] = []
  taken (Enters call ∷ steps) = Enters call ∷ taken steps
  taken (Refuses call ∷ steps) = Refuses call ∷ taken steps
  taken (Does n step ∷ steps) = Does n (call_in told plan faults dig step) ∷ taken steps

  -- the calls of the program by node n
  unfoldable pub steps_by : ℕ → CutSteps → List (LifeStep told plan faults dig)
  steps_by n [] = []
  steps_by n (Enters call ∷ steps) = steps_by n steps
  steps_by n (Refuses call ∷ steps) = steps_by n steps
  steps_by n (Does m step ∷ steps) = if m == n then step ∷ steps_by n steps else steps_by n steps

  -- They are a node's life with cuts, from the init that began it, which ended.
  pub record IsNodeWithCuts (steps : List (LifeStep told plan faults dig)) : Type 0 where
    pub role : Role
    pub later : List (LifeStep told plan faults dig)
    pub first : Call told plan faults dig
    pub are : steps ≡ later ++ Ended first ∷ []
    pub begins : BeginsNode told plan faults dig role first
    pub life : IsLifeWithCuts told plan faults dig steps

  -- A chain with its nodes, whose calls may be cut off. Of a run that was cut off counts what counts of the one as
  -- which it is taken: what it found, what it was handed and answered, and what it wrote.
  pub record IsChainWithCuts (steps : CutSteps) : Type 0 where
    pub digest : IsDigest dig
    pub nodes : (n : ℕ) → steps_by n steps ≢ [] → IsNodeWithCuts (steps_by n steps)
    pub keeps : KeepsTo told plan faults dig rules (taken steps)

  -- A chain with cuts is a chain, of the calls that ended and of those as which the others are taken. So each law of
  -- chains is one of chains with cuts.
  abbrev pub ChainsWithCutsAreChains : Type 0
  ChainsWithCutsAreChains = (steps : CutSteps) → IsChainWithCuts steps
      → IsChain told plan faults dig rules (taken steps)

  -- the steps of a chain whose calls all ended
  unfoldable pub ended : Steps told plan faults dig rules → CutSteps
  ended [] = []
  ended (Enters call ∷ steps) = Enters call ∷ ended steps
  ended (Refuses call ∷ steps) = Refuses call ∷ ended steps
  ended (Does n call ∷ steps) = Does n (Ended call) ∷ ended steps

  -- A chain whose calls all ended is one with cuts, and is taken as itself. So the laws of chains with cuts speak of
  -- each chain.
  pub record IsOneWithCuts (steps : Steps told plan faults dig rules) : Type 0 where
    pub is : IsChainWithCuts (ended steps)
    pub same : taken (ended steps) ≡ steps

  abbrev pub ChainsAreChainsWithCuts : Type 0
  ChainsAreChainsWithCuts = (steps : Steps told plan faults dig rules) → IsChain told plan faults dig rules steps
      → IsOneWithCuts steps

  -- what they come to
  abbrev pub events_with_cuts : CutSteps → List Event
  events_with_cuts steps = events_in told plan faults dig rules (taken steps)

  -- A coin that a wallet holds is safe at each event of a chain with cuts, where it was looked after before, unless the
  -- events up to it exhibit.
  abbrev pub LivesWithCutsKeepTheirCoins : Type 0
  LivesWithCutsKeepTheirCoins = (steps : CutSteps) (later events : List Event) (event : Event) (w c e : ℕ)
      → IsChainWithCuts steps → events_with_cuts steps ≡ later ++ event ∷ events
      → is_looked_after events w c e ≡ true
      → collides dig (event ∷ events) c ≡ false
      → is_forged rules.tag (event ∷ events) w c ≡ false
      → is_safe (tests_by dig) rules (event ∷ events) w c e ≡ true
