-- A call of the program over the two disks of a node: what it was asked for, and what it did.
use Rattle.std.specs.Prelude.{◌≡◌, ◌⊎◌, ℕ, List, Option}
use Rattle.crash_disk.specs.Disk.{History, FaultPlan}
use Rattle.node_replies.specs.Roles.{Role, Wallet, Watcher, Operator}
use Rattle.run_endings.specs.{declared.status.Status.{Status}, declared.status.Status.TheVariants.{NoMemory}}
use Rattle.node_runs.specs.{Sessions.{Outside}, Runs.{RunsWatcher, RunsWallet}, Operators.{RunsOperator}, Inits.{InitsNotes, InitsPair}}
use Rattle.hss_runs.specs.Runs.{RunsSigner}
use Rattle.node_lives.specs.Disks.{Pair}

-- which disks an init begins: that of the notes alone, or both
pub data Begun : Type 0 where
  NotesAlone : Begun
  BothDisks : Begun

-- what a call is asked for: to begin disks with this identity; to run a node of a role; to sign this message by a
-- two-level key; or something that uses no disk
pub data Asked : Type 0 where
  ToBegin : Begun → List ℕ → Asked
  ToRun : Role → Asked
  ToSign : List ℕ → Asked
  ToUseNoDisk : Asked

-- memory ran out before a disk was used
abbrev pub Starves : {D : Type 0} → Pair D → Pair D → Status → Type 0
Starves old new status = (status ≡ NoMemory) × (new ≡ old)

-- over disks that tell their history, foretell their faults and count them, and under a digest
module _ {D : Type 0} (told : D → Option History) (plan : D → Option FaultPlan) (faults : D → ℕ)
    (dig : List ℕ → List ℕ) where
  -- what an init of these disks with this identity did to them, and outside, with this status; one of the notes alone
  -- leaves the other disk
  abbrev pub BeginsAs : Begun → List ℕ → Pair D → Pair D → Outside → Status → Type 0
  BeginsAs BothDisks identity old new outside status =
      InitsPair told plan faults outside.taken outside.after status identity old.notes old.leaves new.notes new.leaves
  BeginsAs NotesAlone identity old new outside status =
      InitsNotes told plan faults outside.taken outside.after status identity old.notes new.notes
      × (new.leaves ≡ old.leaves)

  -- what a run of the role did; why its reading failed doesn't matter here
  abbrev pub RunsAs : Role → Pair D → Pair D → Outside → Status → Type 0
  RunsAs Wallet old new outside status =
      RunsWallet told plan faults dig old.notes old.leaves new.notes new.leaves outside (Unit {0}) status
  RunsAs Watcher old new outside status =
      RunsWatcher told plan faults dig old.notes new.notes outside (Unit {0}) status × (new.leaves ≡ old.leaves)
  RunsAs Operator old new outside status =
      RunsOperator told plan faults dig old.notes old.leaves new.notes new.leaves outside (Unit {0}) status

  -- what a call did that was asked for this
  abbrev pub DoesAsked : Asked → Pair D → Pair D → Outside → Status → Type 0
  DoesAsked (ToBegin disks identity) old new outside status = BeginsAs disks identity old new outside status
  DoesAsked (ToRun role) old new outside status = RunsAs role old new outside status
  DoesAsked (ToSign message) old new outside status =
      RunsSigner told plan faults outside.taken outside.after status message old.notes old.leaves new.notes new.leaves
  DoesAsked ToUseNoDisk old new outside status = new ≡ old

  -- A call: the disks that it was handed and that it handed back, what it did outside, its status, and that it did so.
  pub record Call : Type 0 where
    pub asked : Asked
    pub old : Pair D
    pub new : Pair D
    pub outside : Outside
    pub status : Status
    pub did : DoesAsked asked old new outside status ⊎ Starves old new status
