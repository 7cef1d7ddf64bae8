-- What a command adds to a node's notes and leaves, and where a fault leaves them.
use Rattle.std.specs.Prelude.{◌⊎◌, ℕ, List, Option, Some, option_map}
use Rattle.node_journal.specs.Parts.{Parts, OfLeaves}
use Rattle.node_answers.specs.Answers.{Outcome}
use Rattle.node_roles.specs.Notes.{NotesAt, with_note}

-- with the note that a command of this outcome adds, and with its leaf's record, or with one of them, or with neither
abbrev pub with_effect : {A : Type 0} → (A → Option (List ℕ) → A) → Parts A → Outcome → Parts A
with_effect add parts outcome = record {
  notes = add parts.notes outcome.note;
  leaves = option_map (λ leaves. add leaves outcome.leaf) parts.leaves;
}

-- what a device fault in the append of this record left of a part: only a part that the node has and that is to have a
-- record more meets one
abbrev pub PartFails : {P : Type 0} → (List ℕ → NotesAt → P → Type 0) → Option (List ℕ) → Option NotesAt → Option P
    → Type 0
PartFails Failed (Some body) (Some at) (Some part) = Failed body at part
PartFails Failed added at part = ⊥

-- A node that was there met a device fault in a command of this outcome: in the append of the note, and then the leaves
-- are there still; or behind it in the append of the leaf's record, and then the notes have the note.
abbrev pub EachFails : {P : Type 0} → (NotesAt → P → Type 0) → (List ℕ → NotesAt → P → Type 0) → Outcome
    → Parts NotesAt → Parts P → Type 0
EachFails There Failed outcome at parts =
    (PartFails Failed outcome.note (Some at.notes) (Some parts.notes) × OfLeaves There at.leaves parts.leaves)
    ⊎ (There (with_note at.notes outcome.note) parts.notes × PartFails Failed outcome.leaf at.leaves parts.leaves)
