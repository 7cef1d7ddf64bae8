-- What holds of the records of every key's leaves, in memory and on a disk.
use Rattle.std.specs.Prelude.{◌≡◌, ◌<◌, ◌≤◌, ℕ, zero, suc, ◌+◌, Bool, false, if◌then◌else◌, List, [], ◌∷◌, length, Option, Ok, Err}
use Rattle.crash_disk.specs.Disk.{History}
use Rattle.crash_disk.specs.Calls.{WhereTold}
use Rattle.gate_journal.specs.Image.{spelled}
use Rattle.gate_journal.specs.Journal.{JournalState, IsSettled}
use Rattle.gate_journal.specs.Life.{Stay}
use Rattle.gate_journal.specs.declared.refusal.JournalRefusal.{JournalRefusal}
use Rattle.gate_journal.specs.declared.refusal.JournalRefusal.TheVariants.{NotJournal, NoMemory}
use Rattle.leaf_journal.specs.Records.{are_leaf_records, is_marker, leaf_records, leaf_records_of}
use Rattle.leaf_journal.specs.Leaves.{leaves_of}

-- the number of records before the marker, which are all where there is none
unfoldable pub first_count : List (List ℕ) → ℕ
first_count [] = zero
first_count (body ∷ records) = if is_marker body then zero else suc (first_count records)

-- the records of a key with so many leaves
pub record LeafRecordsState : Type 0 where
  pub leaves : ℕ
  pub records : List (List ℕ)

-- the records are those of the leaves, the ones before the marker are counted, and there is room for all and the
-- marker
pub record AreSound (leaves : ℕ) (records : List (List ℕ)) (first capacity : ℕ) : Type 0 where
  pub are : leaf_records leaves records ≡ Ok records
  pub count : first ≡ first_count records
  pub few : leaves ≤ 1024
  pub room : leaves + 1 ≤ capacity

-- The journal keeps the records, also where a fault closed it; while it is open it keeps no other, its gate is behind
-- them, and there is room for those of all leaves and the marker.
pub record IsSound {D : Type 0} (told : Option History) (journal : JournalState D) (key : List ℕ)
    (kept : LeafRecordsState) : Type 0 where
  pub count : kept.leaves ≡ leaves_of key
  pub are : leaf_records kept.leaves kept.records ≡ Ok kept.records
  pub stay : WhereTold told (Stay (are_leaf_records kept.leaves) kept.records)
  pub settled : journal.closed ≡ false → WhereTold told (λ history. IsSettled history kept.records)
  pub gate : journal.closed ≡ false → journal.gate ≡ length (spelled kept.records)
  pub bodies : journal.closed ≡ false → kept.leaves + 1 ≤ length kept.records + journal.spare_bodies
  pub bytes : journal.closed ≡ false → 132 ≤ journal.spare_bytes

-- the leaf is one of the key's
abbrev pub IsBound : List ℕ → ℕ → Type 0
IsBound key leaf = leaf < leaves_of key

-- why records weren't taken as those of leaves, whose messages pass a test: they aren't, with the place of the first
-- that isn't; or want of memory
abbrev pub IsFormRefusal : (List ℕ → Bool) → ℕ → List (List ℕ) → JournalRefusal → Type 0
IsFormRefusal is_message leaves records (NotJournal place) = leaf_records_of is_message leaves records ≡ Err place
IsFormRefusal is_message leaves records NoMemory = Unit {0}
IsFormRefusal is_message leaves records refusal = ⊥
