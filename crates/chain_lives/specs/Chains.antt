-- A chain with the lives of its nodes, and what is supposed of them: no more than what files and a careful person can
-- keep.
use Rattle.std.specs.Prelude.{◌≡◌, ◌≢◌, ℕ, ◌==◌, true, false, if◌then◌else◌, List, [], ◌∷◌, ◌++◌, Option, Some}
use Rattle.std.specs.List.{Contains, list_any}
use Rattle.crash_disk.specs.Disk.{History, FaultPlan}
use Rattle.plasma_tx.specs.declared.owner.Owner.{Owner}
use Rattle.plasma_tx.specs.declared.call.RootCall.{RootCall}
use Rattle.plasma_tx.specs.Chain.{Chain}
use Rattle.plasma_tx.specs.Shown.{Rules, tests_by, rules_of}
use Rattle.plasma_tx.specs.Table.{answer_to, is_accepted}
use Rattle.node_replies.specs.Roles.{Role}
use Rattle.node_lives.specs.Calls.{Call}
use Rattle.node_lives.specs.Lives.{IsLife}
use Rattle.node_lives.specs.Laws.{Begins as BeginsNode}
use Rattle.world_rules.specs.Events.{Event, wallet_owner}
use Rattle.world_rules.specs.Laws.{IsDigest}
use Rattle.world_laws.specs.Legal.{starts_by, deposits_by, left_by}
use Rattle.chain_lives.specs.Steps.{Visit, Act, Begins, Runs, Step, Enters, Refuses, Does, chain_of, events_of}
use Rattle.chain_lives.specs.Acts.{acts_of, act_of}

-- over disks that tell their history, foretell their faults and count them, under a digest, and of a contract with
-- these rules
module _ {D : Type 0} (told : D → Option History) (plan : D → Option FaultPlan) (faults : D → ℕ)
    (dig : List ℕ → List ℕ) (rules : Rules) where
  -- a chain and the calls of the program by its nodes, the newest first
  abbrev pub Steps : Type 0
  Steps = List (Step (Call told plan faults dig))

  -- what they come to
  abbrev pub events_in : Steps → List Event
  events_in steps = events_of (acts_of told plan faults dig steps)

  -- the calls of the program by node n
  unfoldable pub calls_by : ℕ → Steps → List (Call told plan faults dig)
  calls_by n [] = []
  calls_by n (Enters call ∷ steps) = calls_by n steps
  calls_by n (Refuses call ∷ steps) = calls_by n steps
  calls_by n (Does m call ∷ steps) = if m == n then call ∷ calls_by n steps else calls_by n steps

  -- the calls of the program are a node's life, from the init that began it
  pub record IsNode (calls : List (Call told plan faults dig)) : Type 0 where
    pub role : Role
    pub later : List (Call told plan faults dig)
    pub first : Call told plan faults dig
    pub are : calls ≡ later ++ first ∷ []
    pub begins : BeginsNode told plan faults dig role first
    pub life : IsLife told plan faults dig calls

  -- each node's are, where it made any
  abbrev pub AreNodes : Steps → Type 0
  AreNodes steps = (n : ℕ) → calls_by n steps ≢ [] → IsNode (calls_by n steps)

  -- ---- what each step keeps to

  -- A call of the chain: its contract accepts it, and where it starts an exit by the account of a wallet, a `leave` of
  -- that wallet offered it, and the offer was read.
  pub record MayEnter (steps : Steps) (call : RootCall) : Type 0 where
    pub accepted : is_accepted (answer_to (tests_by dig) rules (chain_of steps) call) ≡ true
    pub offered : (w : ℕ) (me : Owner) → wallet_owner (events_in steps) w ≡ Some me
        → starts_by me.account call ≡ true → Contains (left_by (events_in steps) w) call

  -- A call that was refused: its contract refuses it there. Anybody may have entered it.
  abbrev pub IsRefused : Steps → RootCall → Type 0
  IsRefused steps call = is_accepted (answer_to (tests_by dig) rules (chain_of steps) call) ≡ false

  -- A wallet that is begun: its account made no deposit and started no exit, and no other wallet has it.
  pub record IsFresh (steps : Steps) (me : Owner) : Type 0 where
    pub no_deposit : list_any (deposits_by me.account) (chain_of steps) ≡ false
    pub no_start : list_any (starts_by me.account) (chain_of steps) ≡ false
    pub own_account : (v : ℕ) (other : Owner) → wallet_owner (events_in steps) v ≡ Some other
        → other.account ≢ me.account

  -- A run of a node: the log that it was handed is this chain's, whole, with the calls so far. So it is no older than
  -- that of the run before.
  abbrev pub IsHanded : Steps → Visit → Type 0
  IsHanded steps visit = (chain : Chain) → visit.log ≡ Some chain
      → (rules_of chain ≡ rules) × (chain.log ≡ chain_of steps)

  abbrev pub MayDo : Steps → Act → Type 0
  MayDo steps (Begins (Some me)) = IsFresh steps me
  MayDo steps (Runs visit) = IsHanded steps visit
  MayDo steps act = Unit {0}

  -- each step keeps to that, after those before it
  unfoldable pub KeepsTo : Steps → Type 0
  KeepsTo [] = Unit {0}
  KeepsTo (Enters call ∷ steps) = MayEnter steps call × KeepsTo steps
  KeepsTo (Refuses call ∷ steps) = IsRefused steps call × KeepsTo steps
  KeepsTo (Does n call ∷ steps) = MayDo steps (act_of told plan faults dig n call) × KeepsTo steps

  -- a chain with its nodes
  pub record IsChain (steps : Steps) : Type 0 where
    pub digest : IsDigest dig
    pub nodes : AreNodes steps
    pub keeps : KeepsTo steps
