-- The outcomes of a crash, as images.
use Rattle.std.specs.Prelude.{◌<◌, ℕ, ◌+◌, ◌-◌, ◌%◌, min, if◌then◌else◌, List, length, map, slice_index}
use Rattle.std.specs.List.{count_by, range_with_len}
use Rattle.crash_disk.specs.Disk.{History, content, synced_content, unsynced_ranges, is_touched}
use Rattle.crash_disk.specs.declared.outcome.Outcome.{Outcome}
use Rattle.crash_disk.specs.declared.outcome.Outcome.TheVariants.{Old, New, Mix}

-- the byte at a place of a mix: the touched places, from the lowest up, take the pattern's bytes in turn, and each
-- other place keeps its synced byte
abbrev pub mix_byte : List ℕ → List (ℕ × ℕ) → List ℕ → ℕ → ℕ
mix_byte bytes ranges pattern place =
    if is_touched bytes ranges place
    then slice_index pattern (count_by (is_touched bytes ranges) (range_with_len 0 place) % length pattern)
    else slice_index bytes place

-- a mix that is so much longer than the synced bytes
abbrev pub mix_of : List ℕ → List (ℕ × ℕ) → List ℕ → ℕ → List ℕ
mix_of bytes ranges pattern growth = map (mix_byte bytes ranges pattern) (range_with_len 0 (length bytes + growth))

-- the image that an outcome leaves: the synced bytes, those that the disk holds, or a mix, longer than the synced bytes
-- by the lesser of extra and the growth since
abbrev pub image_after : Outcome → History → List ℕ
image_after Old history = synced_content history
image_after New history = content history
image_after (Mix extra pattern) history =
    mix_of (synced_content history) (unsynced_ranges history) pattern
    (min extra (length (content history) - length (synced_content history)))

-- the pattern of a mix isn't empty
abbrev pub HasPattern : Outcome → Type 0
HasPattern (Mix extra pattern) = 0 < length pattern
HasPattern outcome = Unit {0}
