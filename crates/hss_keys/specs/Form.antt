-- When records are those of a two-level signer: the top leaves count from 0 and sign their own bottom keys; a message
-- is of the last bottom key, and its leaf is the next one.
use Rattle.std.specs.Prelude.{ℕ, ◌+◌, ◌==◌, ◌&&◌, Bool, false, nat_lt, if◌then◌else◌, List, [], ◌∷◌, ◌++◌, length, Result, Ok, Err}
use Rattle.std.specs.Option.{option_map_or}
use Rattle.std.specs.Result.{is_ok}
use Rattle.std.specs.Str.{bytes_eq}
use Rattle.lms_sign.specs.Types.{leaf_count}
use Rattle.gate_journal.specs.Image.{journal_in, spelled}
use Rattle.hss_keys.specs.{declared.seed.HssSeed.{HssSeed}, declared.entry.Entry.{Entry}, declared.entry.Entry.TheVariants.{Opens, Binds}, Keys.{bottom_key}, Entries.{entry_in, entries_of, opened_count, used_in}}

-- the entry may stand behind these
abbrev pub entry_may_follow : HssSeed → List Entry → Entry → Bool
entry_may_follow seed before (Opens j key) =
    (j == opened_count before) && nat_lt j (leaf_count seed.top) && bytes_eq key (bottom_key seed j)
entry_may_follow seed before (Binds j q message) =
    (j + 1 == opened_count before) && (q == used_in before) && nat_lt q (leaf_count seed.bottom)

-- the record may stand behind these
abbrev pub may_follow : HssSeed → List (List ℕ) → List ℕ → Bool
may_follow seed before body = option_map_or (entry_may_follow seed (entries_of before)) (entry_in body) false

-- all records, where each may follow those before it; else the place of the gate of the first that may not
unfoldable pub records_behind : HssSeed → List (List ℕ) → List (List ℕ) → Result (List (List ℕ)) ℕ
records_behind seed before [] = Ok before
records_behind seed before (body ∷ records) =
    if may_follow seed before body then records_behind seed (before ++ body ∷ []) records
    else Err (length (spelled before))

abbrev pub level_records : HssSeed → List (List ℕ) → Result (List (List ℕ)) ℕ
level_records seed records = records_behind seed [] records

-- those of what was read as a journal; the place where it is none stays
abbrev pub level_records_read : HssSeed → Result (List (List ℕ)) ℕ → Result (List (List ℕ)) ℕ
level_records_read seed (Ok records) = level_records seed records
level_records_read seed (Err place) = Err place

-- the records of an image, or the place where it is no journal of this signer
abbrev pub level_records_in : HssSeed → List ℕ → Result (List (List ℕ)) ℕ
level_records_in seed image = level_records_read seed (journal_in image)

-- the records are those of this signer
abbrev pub are_level_records : HssSeed → List (List ℕ) → Bool
are_level_records seed records = is_ok (level_records seed records)
