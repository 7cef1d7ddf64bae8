-- The strings of shown openings, and the way up from one opening.
use Rattle.std.specs.Prelude.{◌≡◌, ℕ, ◌<◌, List, [], map, slice_index_or}
use Rattle.std.specs.List.{flat_map, range_with_len}
use Rattle.sparse_merkle.specs.Opening.{hashed_string, digest_at_level}
use Rattle.world_rules.specs.Exhibits.{strings_in, Pair}
use Rattle.trace_exhibits.specs.Opened.{Opened}
use Rattle.trace_exhibits.specs.declared.shown.Clash.{Clash}

-- the two strings of a clash
abbrev pub pair_of : Clash → Pair
pair_of clash = record { first = clash.first; second = clash.second }

-- the strings of a shown opening
abbrev pub strings_in_shown : (List ℕ → List ℕ) → Opened → List (List ℕ)
strings_in_shown dig one = strings_in dig one.coin one.opening

-- the strings of shown openings, in their order
abbrev pub strings_in_all : (List ℕ → List ℕ) → List Opened → List (List ℕ)
strings_in_all dig shown = flat_map (strings_in_shown dig) shown

-- the strings below a level, on the way up from a leaf
unfoldable pub strings_below : (List ℕ → List ℕ) → ℕ → List ℕ → List (List ℕ) → ℕ → List (List ℕ)
strings_below dig coin leaf path level = map (hashed_string dig coin leaf path) (range_with_len 0 level)

-- the digests of the 65 strings on the way up from a leaf
abbrev pub AreDigestsUp : (List ℕ → List ℕ) → ℕ → List ℕ → List (List ℕ) → List (List ℕ) → Type 0
AreDigestsUp dig coin leaf path digests = (level : ℕ) → level < 65
    → slice_index_or digests level [] ≡ digest_at_level dig coin leaf path level
