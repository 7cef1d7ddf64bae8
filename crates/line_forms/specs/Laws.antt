-- The laws of kinds and tables: what is printed is taken back, and what is taken has one spelling.
use Rattle.std.specs.Prelude.{◌≡◌, ℕ, ◌==◌, not, Bool, true, false, List, [], ◌++◌, Some}
use Rattle.std.specs.List.{AllByRecursion, list_all}
use Rattle.std.specs.Map.{lookup}
use Rattle.std.specs.Str.{bytes_eq}
use Rattle.line_forms.specs.Forms.{Kind, Shape, ends, ◌▸◌, Values, shape_of, name_of, makes, Table, Parts, these, makes_parts}

-- whether no blank stands in a word; 32 is the blank
abbrev pub is_unbroken : List ℕ → Bool
is_unbroken word = list_all (λ byte. not (byte == 32)) word

-- no blank stands in any of the words
abbrev pub AreUnbroken : List (List ℕ) → Type 0
AreUnbroken words = AllByRecursion (λ word. is_unbroken word ≡ true) words

-- which words may come after a kind: any after one that is closed, and none after another
abbrev pub MayFollow : Bool → List (List ℕ) → Type 0
MayFollow true rest = Unit {0}
MayFollow false rest = rest ≡ []

-- a kind's words are taken back, are the one spelling of what is taken, and have no blank
pub record IsKind (A : Type 0) (kind : Kind A) (closed : Bool) : Type 0 where
  pub taken : (value : A) → kind.Is value → (rest : List (List ℕ)) → MayFollow closed rest
      → kind.take (kind.words value ++ rest) ≡ Some (value, rest)
  pub spelled : (words rest : List (List ℕ)) (value : A) → MayFollow closed rest
      → kind.take words ≡ Some (value, rest) → (words ≡ kind.words value ++ rest) × kind.Is value
  pub unbroken : (value : A) → kind.Is value → AreUnbroken (kind.words value)

-- only the last kind of a shape may be open
abbrev pub is_closed_before : Bool → Shape → Bool
is_closed_before closed ends = closed
is_closed_before closed (kind ▸ shape) = true

-- each kind of a shape is lawful
abbrev pub IsLawful : Bool → Shape → Type 0
IsLawful closed ends = Unit {0}
IsLawful closed (◌▸◌ {A} kind shape) = IsKind A kind (is_closed_before closed shape) × IsLawful closed shape

-- a name of a table finds its form, whose shape is lawful; the form's values are the parts of what they make
abbrev pub IsRow : Bool → {N B : Type 0} → (table : Table N B) → (B → Parts N B table) → N → Type 0
IsRow closed table parts name =
    IsLawful closed (shape_of (table.row name))
    × (is_unbroken (name_of (table.row name)) ≡ true)
    × (lookup (bytes_eq (name_of (table.row name))) table.names ≡ Some name)
    × ((values : Values (shape_of (table.row name))) → parts (makes (table.row name) values) ≡ these name values)

-- a value is made of its parts
abbrev pub IsMade : {N B : Type 0} → (table : Table N B) → (B → Parts N B table) → B → Type 0
IsMade table parts value = makes_parts table (parts value) ≡ value

-- a table's names are those of its forms, each form is a row, and each value is made of its parts
pub record IsTable (closed : Bool) (N B : Type 0) (table : Table N B) (parts : B → Parts N B table) : Type 0 where
  pub names : AllByRecursion (λ row. row.0 ≡ name_of (table.row row.1)) table.names
  pub rows : (name : N) → IsRow closed table parts name
  pub made_of : (value : B) → IsMade table parts value
