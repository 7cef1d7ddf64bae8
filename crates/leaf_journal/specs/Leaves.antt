-- What callers see of a key's leaves over a disk, and what the calls do by their definitions.
use Rattle.std.specs.Prelude.{ℕ, Bool, nat_lt, if◌then◌else◌, List, length, Option, Some, None, Result, Ok, Err}
use Rattle.lms_sign.specs.Types.{leaf_count}
use Rattle.lms_sign.specs.Valid.{types_of}
use Rattle.node_journal.specs.Notes.{NotesState}
use Rattle.node_journal.specs.Effect.{Effect, only}
use Rattle.node_journal.specs.declared.stop.Stop.{Stop}
use Rattle.node_journal.specs.declared.stop.Stop.TheVariants.{Closed as StopClosed, DeviceFault as StopFault}
use Rattle.leaf_journal.specs.declared.refusal.BindRefusal.{BindRefusal}
use Rattle.leaf_journal.specs.declared.refusal.BindRefusal.TheVariants.{KeySpent, DeviceFault, Closed}
use Rattle.leaf_journal.specs.declared.refusal.MigrateRefusal.{MigrateRefusal}
use Rattle.leaf_journal.specs.declared.refusal.MigrateRefusal.TheVariants.{AlreadyNew, DeviceFault as MigrateFault, Closed as MigrateClosed}
use Rattle.leaf_journal.specs.Records.{binding_record, is_marked, marker, messages_of}

-- their records in a journal on a disk, as a node's notes are; and the public key
pub record LeavesState (D : Type 0) : Type 0 where
  pub notes : NotesState D
  pub key : List ℕ

-- the number of leaves of a public key
abbrev pub leaves_of : List ℕ → ℕ
leaves_of key = leaf_count (types_of key)

-- a leaf is left to be bound: the bound ones are the first ones
abbrev pub has_leaf : List ℕ → List (List ℕ) → Bool
has_leaf key records = nat_lt (length (messages_of records)) (leaves_of key)

-- a leaf that is bound to a message: the public key, the leaf's number and the message
pub record BoundState : Type 0 where
  pub key : List ℕ
  pub leaf : ℕ
  pub message : List ℕ

-- what a bind does by its definition: the next leaf is bound to the message, where one is left
abbrev pub leaf_effect : List ℕ → List (List ℕ) → List ℕ → Effect (Result BoundState BindRefusal)
leaf_effect key records message =
    let next = length (messages_of records) in
    if has_leaf key records
    then record {
      answer = Ok (record { key = key; leaf = next; message = message });
      note = Some (binding_record records message);
    }
    else only (Err (KeySpent next))

-- what a migration does by its definition: the marker is added, where it isn't there
abbrev pub marker_effect : List (List ℕ) → Effect (Result Unit MigrateRefusal)
marker_effect records =
    if is_marked records then only (Err AlreadyNew) else record { answer = Ok tt; note = Some marker }

-- what stopped a bind that was answered so; that the key is spent is no stop
abbrev pub bind_stop : Result BoundState BindRefusal → Option Stop
bind_stop (Err DeviceFault) = Some StopFault
bind_stop (Err Closed) = Some StopClosed
bind_stop result = None

-- what stopped a migration that was answered so; that the marker is there is no stop
abbrev pub migrate_stop : Result Unit MigrateRefusal → Option Stop
migrate_stop (Err MigrateFault) = Some StopFault
migrate_stop (Err MigrateClosed) = Some StopClosed
migrate_stop result = None
