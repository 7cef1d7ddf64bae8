-- What a run of an operator does, without a key or with one.
use Rattle.std.specs.Prelude.{◌≡◌, ◌⊎◌, ℕ, List, Option, Some, None, Result}
use Rattle.crash_disk.specs.Disk.{History, FaultPlan}
use Rattle.lms_sign.specs.Tree.{public_key_of}
use Rattle.gate_journal.specs.{declared.refusal.JournalRefusal.{JournalRefusal}, declared.refusal.JournalRefusal.TheVariants.{NoMemory}}
use Rattle.node_journal.specs.{Notes.{NotesState, Opened, RefusesRole}, Role.{role_in}, Parts.{alone, both}}
use Rattle.leaf_journal.specs.{Leaves.{leaves_of}, Records.{leaf_records_in_of}}
use Rattle.operator_rules.specs.Records.{operator_kinds, who_is}
use Rattle.receipt_audit.specs.{Promises.{is_promise}, Desk.{desk_secret}}
use Rattle.node_roles.specs.Roles.{operator_commands, desk_commands}
use Rattle.run_endings.specs.declared.status.Status.{Status}
use Rattle.node_runs.specs.{Sessions.{Outside}, Runs.{OpensAndRuns, NodeSession}}

-- the records of the leaves of the key that is made of this seed, each of which is bound to a promise, or where an
-- image spells none
abbrev pub desk_records_in : List ℕ → List ℕ → Result (List (List ℕ)) ℕ
desk_records_in seed image = leaf_records_in_of is_promise (leaves_of (public_key_of (desk_secret seed))) image

-- over disks that tell their history, foretell their faults and count them, and under a digest
module _ {D : Type 0} (told : D → Option History) (plan : D → Option FaultPlan) (faults : D → ℕ)
    (dig : List ℕ → List ℕ) where
  -- the disk of its leaves was refused, or memory ran out before it was asked, as the key was made
  abbrev pub RefusesDesk : List ℕ → D → JournalRefusal → D → Type 0
  RefusesDesk seed old why new =
      RefusesRole told plan faults (desk_records_in seed) old why new ⊎ ((why ≡ NoMemory) × (new ≡ old))

  -- Behind notes that were opened: an operator without a key leaves the other disk as it was, and its session is run;
  -- with a key that is made of this seed, the leaves are opened, and the notes are handed back where they can't be.
  abbrev pub RunsBehind : Option (List ℕ) → NotesState D → D → D → D → Outside → Type 0 → Status → Type 0
  RunsBehind None opened leaves new_notes new_leaves outside failed status =
      NodeSession told plan faults dig operator_commands (alone opened) (alone new_notes) outside failed status
      × (new_leaves ≡ leaves)
  RunsBehind (Some seed) opened leaves new_notes new_leaves outside failed status =
      OpensAndRuns
      (λ desk. Opened told plan faults (desk_records_in seed) leaves desk)
      (λ desk. NodeSession told plan faults dig desk_commands (both opened desk) (both new_notes new_leaves) outside
      failed status)
      (λ why. RefusesDesk seed leaves why new_leaves × (new_notes ≡ opened.disk))
      outside status

  -- a run of an operator: its notes are opened, and it goes on by its identity, which has a key or hasn't; where they
  -- can't be the other disk stays
  unfoldable pub RunsOperator : D → D → D → D → Outside → Type 0 → Status → Type 0
  RunsOperator notes leaves new_notes new_leaves outside failed status =
      OpensAndRuns
      (λ opened. Opened told plan faults (role_in operator_kinds) notes opened)
      (λ opened. RunsBehind (who_is opened.records).key_seed opened leaves new_notes new_leaves outside failed status)
      (λ why. RefusesRole told plan faults (role_in operator_kinds) notes why new_notes × (new_leaves ≡ leaves))
      outside status
