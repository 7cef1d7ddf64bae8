-- A node's notes, and its leaves where its role has them.
use Rattle.std.specs.Prelude.{Option, Some, None, option_map}

-- of a node's notes, and of its leaves where its role has them
pub record Parts (A : Type 0) : Type 0 where
  pub notes : A
  pub leaves : Option A

-- of one that has notes alone, and of one that has leaves too
abbrev pub alone : {A : Type 0} → A → Parts A
alone notes = record { notes = notes; leaves = None }

abbrev pub both : {A : Type 0} → A → A → Parts A
both notes leaves = record { notes = notes; leaves = Some leaves }

-- what this makes of each
abbrev pub of_each : {A B : Type 0} → (A → B) → Parts A → Parts B
of_each make parts = record { notes = make parts.notes; leaves = option_map make parts.leaves }

-- this holds of the leaves of both, or neither has leaves
abbrev pub OfLeaves : {A B : Type 0} → (A → B → Type 0) → Option A → Option B → Type 0
OfLeaves Holds None None = Unit {0}
OfLeaves Holds (Some one) (Some other) = Holds one other
OfLeaves Holds one other = ⊥

-- this holds of the notes of both, and of their leaves
abbrev pub OfEach : {A B : Type 0} → (A → B → Type 0) → Parts A → Parts B → Type 0
OfEach Holds one other = Holds one.notes other.notes × OfLeaves Holds one.leaves other.leaves
