-- The openings that were met.
use Rattle.std.specs.Prelude.{◌≡◌, ℕ, List, [], Option, Some}
use Rattle.std.specs.List.{Contains, slice_get}
use Rattle.std.specs.Option.{option_map_or}
use Rattle.plasma_tx.specs.Openings.{leaf_in}
use Rattle.world_rules.specs.Exhibits.{strings_in}
use Rattle.trace_exhibits.specs.Opened.{Opened}

-- the leaf of an opening that was met at a place; empty where none was
abbrev pub leaf_of : Option Opened → List ℕ
leaf_of found = option_map_or (λ one. leaf_in one.opening.bytes) found []

abbrev pub leaf_at : List Opened → ℕ → List ℕ
leaf_at met place = leaf_of (slice_get met place)

-- each opening that was met stands at its place still
abbrev pub AreStill : List Opened → List Opened → Type 0
AreStill old new = (place : ℕ) (one : Opened) → slice_get old place ≡ Some one → slice_get new place ≡ Some one

-- each string of an opening that was met is among these
abbrev pub KeepsMet : (List ℕ → List ℕ) → List Opened → List (List ℕ) → Type 0
KeepsMet dig met earlier = (place : ℕ) (one : Opened) → slice_get met place ≡ Some one → (string : List ℕ)
    → Contains (strings_in dig one.coin one.opening) string → Contains earlier string
