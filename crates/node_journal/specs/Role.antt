-- A role's records: first its identity, and then notes.
use Rattle.std.specs.Prelude.{ℕ, Bool, false, ◌&&◌, if◌then◌else◌, List, [], ◌∷◌, length, Result, Ok, Err}
use Rattle.std.specs.List.{list_all, take_while}
use Rattle.gate_journal.specs.Image.{spelled, journal_in}

-- which record is an identity, and which is a note behind an identity
pub record Kinds : Type 0 where
  pub is_identity : List ℕ → Bool
  pub is_note : List ℕ → List ℕ → Bool

-- the records are of these kinds
abbrev pub are_of : Kinds → List (List ℕ) → Bool
are_of kinds [] = false
are_of kinds (identity ∷ notes) = kinds.is_identity identity && list_all (kinds.is_note identity) notes

-- the record may stand behind these
abbrev pub may_follow : Kinds → List (List ℕ) → List ℕ → Bool
may_follow kinds [] body = kinds.is_identity body
may_follow kinds (identity ∷ notes) body = kinds.is_note identity body

-- the records before the first one that isn't of these kinds
abbrev pub front_of : Kinds → List (List ℕ) → List (List ℕ)
front_of kinds [] = []
front_of kinds (identity ∷ notes) =
    if kinds.is_identity identity then identity ∷ take_while (kinds.is_note identity) notes else []

-- the records, where they are of these kinds; else the place of the gate of the first one that isn't, or of the missing
-- identity
abbrev pub of_kinds : Kinds → List (List ℕ) → Result (List (List ℕ)) ℕ
of_kinds kinds records = if are_of kinds records then Ok records else Err (length (spelled (front_of kinds records)))

-- the same of the records that were read, or the place where there are none
abbrev pub read_of_kinds : Kinds → Result (List (List ℕ)) ℕ → Result (List (List ℕ)) ℕ
read_of_kinds kinds (Ok records) = of_kinds kinds records
read_of_kinds kinds (Err place) = Err place

-- the records of an image, where it spells records of these kinds; else the place where it doesn't
abbrev pub role_in : Kinds → List ℕ → Result (List (List ℕ)) ℕ
role_in kinds image = read_of_kinds kinds (journal_in image)
