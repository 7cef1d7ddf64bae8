-- Tables of names.
use Rattle.std.specs.Prelude.{ℕ, List, map}
use Rattle.std.specs.Borrow.{Bor}

-- the rows of a table, whose names code holds by reference
abbrev pub rows_of : {T : Type 0} → List (Bor (List ℕ) × T) → List (List ℕ × T)
rows_of table = map (λ row. (row.0.now, row.1)) table
