-- What holds of the records of every two-level signer, in memory and on a disk.
use Rattle.std.specs.Prelude.{◌≡◌, ◌<◌, ◌≤◌, ℕ, true, false, List, length, drop, Option, Ok, Err}
use Rattle.crash_disk.specs.{Disk.{History}, Calls.{WhereTold}}
use Rattle.lms_sign.specs.{declared.secret.Secret.{Secret}, Types.{is_supported, leaf_count}, Valid.{types_of}}
use Rattle.gate_journal.specs.{Image.{spelled}, Journal.{JournalState, IsSettled}, Life.{Stay}, declared.refusal.JournalRefusal.{JournalRefusal}, declared.refusal.JournalRefusal.TheVariants.{NotJournal, NoMemory}}
use Rattle.hss_keys.specs.{declared.seed.HssSeed.{HssSeed}, Keys.{top_secret, hss_key_of}, Entries.{entries_of, keys_of, used_in}, Form.{are_level_records, level_records}, Levels.{leaves_left}}

-- both pairs of types are supported, the identifier has its length, and the key is the top one
pub record IsHssSecret (seed : HssSeed) (key : Secret) : Type 0 where
  pub top : is_supported seed.top ≡ true
  pub bottom : is_supported seed.bottom ≡ true
  pub id : length seed.id ≡ 16
  pub key_is : key ≡ top_secret seed

-- the records in memory; and how many more there is room for
pub record LevelRecordsState : Type 0 where
  pub seed : HssSeed
  pub records : List (List ℕ)
  pub spare : ℕ

-- The types are supported and the identifier has its length; the records are those of the signer, the keys are those of
-- the records and the count is that of the last one's messages; and there is room for every key.
pub record AreSound (seed : HssSeed) (records keys : List (List ℕ)) (used room : ℕ) : Type 0 where
  pub top : is_supported seed.top ≡ true
  pub bottom : is_supported seed.bottom ≡ true
  pub id : length seed.id ≡ 16
  pub are : level_records seed records ≡ Ok records
  pub keys_are : keys ≡ keys_of (entries_of records)
  pub used_is : used ≡ used_in (entries_of records)
  pub keys_room : leaf_count seed.top ≤ room

-- the journal keeps the records, also where a fault closed it; while it is open its gate is behind them
pub record IsKept {D : Type 0} (told : Option History) (journal : JournalState D) (kept : LevelRecordsState)
    : Type 0 where
  pub are : level_records kept.seed kept.records ≡ Ok kept.records
  pub stay : WhereTold told (Stay (are_level_records kept.seed) kept.records)
  pub settled : journal.closed ≡ false → WhereTold told (λ history. IsSettled history kept.records)
  pub gate : journal.closed ≡ false → journal.gate ≡ length (spelled kept.records)

-- there is room, in memory and in the journal, for so many more records
pub record HasRoom {D : Type 0} (journal : JournalState D) (kept : LevelRecordsState) (more : ℕ) : Type 0 where
  pub spare : more ≤ kept.spare
  pub bodies : more ≤ journal.spare_bodies
  pub bytes : 0 < more → 137 ≤ journal.spare_bytes

-- The key is the signer's, and the journal keeps the records; while it is open there is room for each message that the
-- last bottom key can still bind.
pub record IsSound {D : Type 0} (told : Option History) (journal : JournalState D) (key : List ℕ)
    (kept : LevelRecordsState) : Type 0 where
  pub key_is : key ≡ hss_key_of kept.seed
  pub is_kept : IsKept told journal kept
  pub room : journal.closed ≡ false → HasRoom journal kept (leaves_left kept.seed (entries_of kept.records))

-- the leaves are the keys'
pub record IsBound (key bottom : List ℕ) (top_leaf leaf : ℕ) : Type 0 where
  pub top : top_leaf < leaf_count (types_of (drop 4 key))
  pub below : leaf < leaf_count (types_of bottom)

-- why records weren't taken as those of a signer: they aren't, with the place of the first that isn't; or want of
-- memory
abbrev pub IsFormRefusal : HssSeed → List (List ℕ) → JournalRefusal → Type 0
IsFormRefusal seed records (NotJournal place) = level_records seed records ≡ Err place
IsFormRefusal seed records NoMemory = Unit {0}
IsFormRefusal seed records refusal = ⊥
