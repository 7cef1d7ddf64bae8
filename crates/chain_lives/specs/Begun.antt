-- The beginnings of wallets on a chain, as events.
use Rattle.std.specs.Prelude.{◌≡◌, ◌++◌, ℕ, List, ◌∷◌, Option, Some}
use Rattle.crash_disk.specs.Disk.{History, FaultPlan}
use Rattle.plasma_tx.specs.declared.owner.Owner.{Owner}
use Rattle.plasma_tx.specs.Shown.{Rules}
use Rattle.node_lives.specs.Calls.{Call}
use Rattle.world_laws.specs.Legal.{LegalDeclaration}
use Rattle.chain_lives.specs.Steps.{Begins, Does, Found, events_behind}
use Rattle.chain_lives.specs.Acts.{act_of, acts_of}
use Rattle.chain_lives.specs.Chains.{Steps, IsChain}

-- where a wallet was begun, its declaration is legal after the events so far: it did nothing before
abbrev pub BeginningsAreLegal : {D : Type 0} → (told : D → Option History) (plan : D → Option FaultPlan)
    (faults : D → ℕ) (dig : List ℕ → List ℕ) (rules : Rules) → Type 0
BeginningsAreLegal told plan faults dig rules =
    (later earlier : Steps told plan faults dig rules) (n : ℕ) (call : Call told plan faults dig) (me : Owner)
    (found : Found)
    → IsChain told plan faults dig rules (later ++ Does n call ∷ earlier)
    → act_of told plan faults dig n call ≡ Begins (Some me)
    → LegalDeclaration (events_behind found (acts_of told plan faults dig earlier)) n me
