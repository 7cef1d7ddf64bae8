-- What an init of a watcher, an operator or a wallet does.
use Rattle.std.specs.Prelude.{◌≡◌, ℕ, List, [], ◌∷◌, Option, Result, Err, OnOk}
use Rattle.plasma_base.specs.Causes.{faults_after}
use Rattle.crash_disk.specs.{Disk.{History, FaultPlan}, Calls.{WhereTold}}
use Rattle.gate_journal.specs.{Journal.{IsSettled}, declared.refusal.InitRefusal.{InitRefusal}}
use Rattle.node_journal.specs.Begin.{init_steps, Inits, is_init_fault, BeginsPair}
use Rattle.run_endings.specs.{declared.status.Status.{Status}, Outputs.{EndsAs}}
use Rattle.node_runs.specs.Endings.{init_output}

-- over disks that tell their history, foretell their faults and count them; the sink had taken this, before and after,
-- where it tells it
module _ {D : Type 0} (told : D → Option History) (plan : D → Option FaultPlan) (faults : D → ℕ)
    (taken after : Option (List ℕ)) (status : Status) where
  -- An init of notes with this identity: what it did to the disk, each image of a crash of which spells the identity
  -- alone where it was made, and what the run says of it.
  pub record InitsNotes (identity : List ℕ) (old new : D) : Type 0 where
    pub answer : Result Unit InitRefusal
    pub inits : Inits told plan (init_steps identity) old answer new
    pub count : faults new ≡ faults_after (faults old) (is_init_fault answer)
    pub begun : OnOk answer (WhereTold (told new) (λ now. IsSettled now (identity ∷ [])))
    pub ends : EndsAs (init_output answer) status taken after ⊥

  -- An init of two disks with this identity: of the notes, and of the leaves, each image of a crash of which spells no
  -- record where they were made.
  pub record InitsPair (identity : List ℕ) (notes leaves new_notes new_leaves : D) : Type 0 where
    pub answer : Result Unit InitRefusal
    pub inits : BeginsPair told plan faults told plan faults identity notes leaves answer new_notes new_leaves
    pub begun : OnOk answer (WhereTold (told new_notes) (λ now. IsSettled now (identity ∷ [])))
    pub empty : OnOk answer (WhereTold (told new_leaves) (λ now. IsSettled now []))
    pub ends : EndsAs (init_output answer) status taken after ⊥

-- over disks that tell their history and foretell their faults
module _ {D : Type 0} (told : D → Option History) (plan : D → Option FaultPlan) where
  -- an init of notes with this identity that was refused, and what it did to the disk; and one of two disks
  abbrev pub RefusesNotes : List ℕ → D → D → Type 0
  RefusesNotes identity old new =
      (why : InitRefusal) × Inits told plan (init_steps identity) old (Err why) new

  abbrev pub RefusesPair : (D → ℕ) → List ℕ → D → D → D → D → Type 0
  RefusesPair faults identity notes leaves new_notes new_leaves =
      (why : InitRefusal)
      × BeginsPair told plan faults told plan faults identity notes leaves (Err why) new_notes new_leaves
