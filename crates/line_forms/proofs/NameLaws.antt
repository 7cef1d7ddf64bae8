-- A table of names is searched row by row.
use Rattle.line_forms.proofs.Basics.{◌≡◌, ℕ, zero, suc, ◌+◌, ◌<◌, Bool, true, false, cond, List, [], ◌∷◌, ◌++◌, length, map, take, get_or, Option, Some, None, option_map, refl, add-one, arith, lookup, common_steps, rows_of}
use Rattle.std.specs.Borrow.{Bor}

-- no row had the name before
pub none_first : {T : Type 0} (b : Bool) (value : T) (rest : Option T) → cond b (Some value) rest ≡ None
    → (b ≡ false) × (rest ≡ None)
none_first b value rest h = grind (arith, common_steps) steps 20000

pub named-found : {T : Type 0} (test : List ℕ → Bool) (table : List (Bor (List ℕ) × T)) (i : ℕ)
    (row d : Bor (List ℕ) × T) → i < length table
    → row ≡ get_or table i d → lookup test (rows_of (take i table)) ≡ None → test row.0.now ≡ true
    → lookup test (rows_of table) ≡ Some row.1
named-found test [] i row d lt e h is = absurd (omega arith)
named-found test (first ∷ table) zero row d lt e h is = grind (arith, common_steps) steps 20000
named-found test (first ∷ table) (suc i) row d lt e h is =
    let p = none_first (test first.0.now) first.1 (lookup test (rows_of (take i table))) h in
    rw p.0 (named-found test table i row d (omega arith) e p.1 is)

named-suc : {T : Type 0} (test : List ℕ → Bool) (table : List (Bor (List ℕ) × T)) (i : ℕ) (row d : Bor (List ℕ) × T)
    → i < length table
    → row ≡ get_or table i d → lookup test (rows_of (take i table)) ≡ None → test row.0.now ≡ false
    → lookup test (rows_of (take (suc i) table)) ≡ None
named-suc test [] i row d lt e h is = absurd (omega arith)
named-suc test (first ∷ table) zero row d lt e h is = grind (arith, common_steps) steps 20000
named-suc test (first ∷ table) (suc i) row d lt e h is =
    let p = none_first (test first.0.now) first.1 (lookup test (rows_of (take i table))) h in
    rw p.0 (named-suc test table i row d (omega arith) e p.1 is)

pub named-more : {T : Type 0} (test : List ℕ → Bool) (table : List (Bor (List ℕ) × T)) (i : ℕ)
    (row d : Bor (List ℕ) × T) → i < length table
    → row ≡ get_or table i d → lookup test (rows_of (take i table)) ≡ None → test row.0.now ≡ false
    → lookup test (rows_of (take (i + 1) table)) ≡ None
named-more test table i row d lt e h is = rw add-one (named-suc test table i row d lt e h is)

-- a table of names after another: a name of the first is found there
pub lookup-before : {K X : Type 0} (test : K → Bool) (first second : List (K × X)) (x : X)
    → lookup test first ≡ Some x → lookup test (first ++ second) ≡ Some x
lookup-before test [] second x h = cc h
lookup-before {K} {X} test (row ∷ first) second x h =
    elim (test row.0) as
    (λ b. cond b (Some row.1) (lookup test first) ≡ Some x
    → cond b (Some row.1) (lookup test (first ++ second)) ≡ Some x) [
      | true ↦ λ is. is
      | false ↦ λ is. lookup-before test first second x is
    ] h

-- and each other name is looked for in the second
pub lookup-after : {K X : Type 0} (test : K → Bool) (first second : List (K × X)) → lookup test first ≡ None
    → lookup test (first ++ second) ≡ lookup test second
lookup-after test [] second h = refl
lookup-after test (row ∷ first) second h =
    let p = none_first (test row.0) row.1 (lookup test first) h in
    rw p.0 (lookup-after test first second p.1)

-- a table of names with something made of what each has
pub lookup-mapped : {K X Y : Type 0} (test : K → Bool) (f : X → Y) (rows : List (K × X))
    → lookup test (map (λ (row : K × X). (row.0, f row.1)) rows) ≡ option_map f (lookup test rows)
lookup-mapped test f [] = refl
lookup-mapped {K} {X} {Y} test f (row ∷ rows) = grind (arith, common_steps, lookup-mapped test f rows) steps 20000
