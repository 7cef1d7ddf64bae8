-- The bytes of a bundle: the coin, the tip and the number of items, then the items and nothing after them. An item is
-- a block number, the length of its opening's bytes and these bytes. Block numbers rise strictly.
use Rattle.std.specs.Prelude.{◌≡◌, ℕ, zero, suc, ◌+◌, ◌^◌, ◌<◌, ◌≤◌, ◌==◌, true, nat_lt, if◌then◌else◌, List, [], ◌∷◌, ◌++◌, length, slice_range, Result, Ok, Err, is_ok}
use Rattle.std.specs.Int.{w32, to_be_bytes, from_be_bytes}
use Rattle.std.specs.List.{All, AllPairs, flat_map}
use Rattle.plasma_tx.specs.{declared.opening.RawOpening.{RawOpening}, Spelling.{number_text, number_at, AreBytes}}
use Rattle.coin_history.specs.{declared.bundle.Bundle.{Bundle}, declared.refusal.HistoryRefusal.{HistoryRefusal}, declared.refusal.HistoryRefusal.TheVariants.{BadBundle}}

-- the four bytes of a length or a count, and the one that stands at a place
abbrev pub length_text : ℕ → List ℕ
length_text number = to_be_bytes w32 number

abbrev pub length_at : List ℕ → ℕ → ℕ
length_at bytes place = from_be_bytes w32 (slice_range bytes place (place + 4))

-- an item: the block, the length of the opening's bytes, these bytes
abbrev pub item_text : RawOpening → List ℕ
item_text opening = number_text opening.block ++ length_text (length opening.bytes) ++ opening.bytes

-- the bytes of a bundle
unfoldable pub bundle_text : Bundle → List ℕ
bundle_text bundle =
    (
    number_text bundle.coin
    ++ number_text bundle.tip
    ++ length_text (length bundle.openings)
    ++ flat_map item_text bundle.openings
    )

-- items that were read, and the place behind them
pub record Items : Type 0 where
  pub openings : List RawOpening
  pub place : ℕ

-- the item before others that were read
abbrev pub with_item : RawOpening → Result Items HistoryRefusal → Result Items HistoryRefusal
with_item opening (Err why) = Err why
with_item opening (Ok items) = Ok (record items { openings = opening ∷ items.openings })

-- The so many items that stand at a place, the first at a block from low on. The first field in order that runs past
-- the end, or block number that doesn't rise, is refused by its place.
unfoldable pub items_in : List ℕ → ℕ → ℕ → ℕ → Result Items HistoryRefusal
items_in bytes place low zero = Ok (record { openings = []; place = place })
items_in bytes place low (suc count) =
    let block = number_at bytes place in
    let end = place + 12 + length_at bytes (place + 8) in
    if nat_lt (length bytes) (place + 8) then Err (BadBundle place)
    else if nat_lt block low then Err (BadBundle place)
    else if nat_lt (length bytes) (place + 12) then Err (BadBundle (place + 8))
    else if nat_lt (length bytes) end then Err (BadBundle (place + 12))
    else with_item (record { block = block; bytes = slice_range bytes (place + 12) end })
    (items_in bytes end (block + 1) count)

-- the bundle of the items, where nothing stands behind them
abbrev pub bundle_of : List ℕ → Result Items HistoryRefusal → Result Bundle HistoryRefusal
bundle_of bytes (Err why) = Err why
bundle_of bytes (Ok items) =
    if items.place == length bytes
    then Ok (record { coin = number_at bytes 0; tip = number_at bytes 8; openings = items.openings })
    else Err (BadBundle items.place)

-- the bundle that the bytes spell
unfoldable pub bundle_in : List ℕ → Result Bundle HistoryRefusal
bundle_in bytes =
    if nat_lt (length bytes) 8 then Err (BadBundle 0)
    else if nat_lt (length bytes) 16 then Err (BadBundle 8)
    else if nat_lt (length bytes) 20 then Err (BadBundle 16)
    else bundle_of bytes (items_in bytes 20 0 (length_at bytes 16))

-- The bytes have the three numbers that a bundle begins with, and behind them, of at least one item, the first whole.
pub record HasFirstItem (bytes : List ℕ) : Type 0 where
  pub numbers : 20 ≤ length bytes
  pub counted : 1 ≤ length_at bytes 16
  pub whole : is_ok (items_in bytes 20 0 1) ≡ true

-- the blocks of openings rise strictly
abbrev pub AreRising : List RawOpening → Type 0
AreRising openings = AllPairs (λ earlier later. earlier.block < later.block) openings

-- a bundle that has bytes: its blocks rise strictly, and its numbers, count and lengths fit their fields
pub record IsBundle (bundle : Bundle) : Type 0 where
  pub coin : bundle.coin < 2 ^ 64
  pub tip : bundle.tip < 2 ^ 64
  pub count : length bundle.openings < 2 ^ 32
  pub blocks : All (λ opening. opening.block < 2 ^ 64) bundle.openings
  pub lengths : All (λ opening. length opening.bytes < 2 ^ 32) bundle.openings
  pub rising : AreRising bundle.openings

-- a bundle's bytes are read as that bundle
abbrev pub BundlesAreReadBack : Type 0
BundlesAreReadBack = (bundle : Bundle) → IsBundle bundle → bundle_in (bundle_text bundle) ≡ Ok bundle

-- bytes that are read as a bundle are its own
abbrev pub BundlesHaveOneSpelling : Type 0
BundlesHaveOneSpelling = (bytes : List ℕ) (bundle : Bundle) → AreBytes bytes → bundle_in bytes ≡ Ok bundle
    → (bytes ≡ bundle_text bundle) × IsBundle bundle
