-- Where things are by their names.
use Rattle.std.specs.Prelude.{◌≡◌, ℕ, if◌then◌else◌, List, Option, Some, Vec, slice_get}
use Rattle.std.specs.declared.cmp.Ordering.{Ordering}
use Rattle.std.specs.Ordering.{nat_cmp}
use Rattle.std.specs.Cmp.Lexicographic.{slice_cmp}
use Rattle.std.specs.BTreeMap.{get_by}
use Rattle.std.specs.Str.{bytes_eq}
use Rattle.world_scene.specs.declared.places.Places.{Places}

-- how a name compares to a key
abbrev pub key_cmp : {A : Type 0} → List ℕ → Vec ℕ A → Ordering
key_cmp name key = slice_cmp nat_cmp name key.items

-- the place that a name has
abbrev pub place_in : Places → List ℕ → Option ℕ
place_in places name = get_by (key_cmp name) places.by_name

-- the name has this place now, and each other name the one that it had
abbrev pub PutsPlace : Places → List ℕ → ℕ → Places → Type 0
PutsPlace old name place new =
    (other : List ℕ) → place_in new other ≡ (if bytes_eq name other then Some place else place_in old other)

-- each of these things is found by its name
abbrev pub FindsEach : {X : Type 0} → Places → (X → List ℕ) → List X → Type 0
FindsEach {X} places name_of things =
    (n : ℕ) (thing : X) → slice_get things n ≡ Some thing → place_in places (name_of thing) ≡ Some n
