-- The leaves of a pool and of sealed trees fit a journal's record, as the records do that they come from.
use Rattle.operator_core.proofs.Words.{◌≡◌, ℕ, ◌≤◌, ◌==◌, ◌&&◌, true, false, if◌then◌else◌, List, [], ◌∷◌, ◌++◌, length, drop, Option, Some, None, sym, subst, append-nil, append_assoc, length-drop, arith, IfSome, nat_le, cases_eq, All-head, All-tail, common_steps, most, Entry, leaf_of, with_leaf, leaf_of-with_leaf, leaf_of-with_other, RootCall, number_at, Note, Offered, Laid, Sealed, note_in, notes_of, who_is, spells_transfer, Forest, forest_of, after_note, tree_of, tree_at, coin_named, forest_in, Who, PoolState, TreesState, FitJournal, HasShortLeaves, AreShortTrees, IsRight, notes_among, put_of, changed}
use Rattle.std.specs.Option.{option_map}
use Rattle.plasma_tx.proofs.Each.{all-append, all-found}
use Rattle.operator_core.proofs.Rebuilt.{with_put-is, forest-push}

-- the leaf that a note puts fits
NoteFits : Note → Type 0
NoteFits (Offered bytes) = length bytes ≤ most
NoteFits (Laid coin bytes) = length bytes ≤ most
NoteFits Sealed = Unit {0}

note-fits : (tag body : List ℕ) → length body ≤ most → IfSome (note_in tag body) NoteFits
unfolding note_in NoteFits
note-fits tag [] le = tt
note-fits tag (mark ∷ bytes) le =
    elim ((mark == 34) && spells_transfer tag bytes) as (λ b. IfSome (if b then Some (Offered bytes)
    else if (mark == 35) && nat_le 8 (length bytes) then Some (Laid (number_at bytes 0) (drop 8 bytes))
    else if (mark == 36) && (length bytes == 0) then Some Sealed else None) NoteFits) [
      | true ↦ omega arith
      | false ↦ elim ((mark == 35) && nat_le 8 (length bytes)) as (λ b. IfSome (if b
          then Some (Laid (number_at bytes 0) (drop 8 bytes))
          else if (mark == 36) && (length bytes == 0) then Some Sealed else None) NoteFits) [
            | true ↦ omega (arith, length-drop 8 bytes)
            | false ↦ grind (arith, common_steps) steps 20000
          ]
    ]

-- the leaves of the pool, and of each sealed tree
record IsShort (forest : Forest) : Type 0 where
  pool : HasShortLeaves forest.pool
  sealed : AreShortTrees forest.sealed

none-short : HasShortLeaves []
unfolding leaf_of
none-short coin = omega arith

with-short : (entries : List Entry) (coin : ℕ) (leaf : List ℕ) → HasShortLeaves entries → length leaf ≤ most
    → HasShortLeaves (with_leaf entries coin leaf)
with-short entries coin leaf short fits other =
    grind (arith, common_steps, cases_eq, leaf_of-with_leaf, leaf_of-with_other) steps 20000

short-note : (note : Note) (forest : Forest) → NoteFits note → IsShort forest → IsShort (after_note note forest)
unfolding NoteFits
short-note (Offered bytes) forest fits short =
    record { pool = with-short forest.pool (coin_named bytes) bytes short.pool fits; sealed = short.sealed }
short-note (Laid coin bytes) forest fits short =
    record { pool = with-short forest.pool coin bytes short.pool fits; sealed = short.sealed }
short-note Sealed forest fits short = grind (arith, common_steps, none-short, all-append) steps 20000

short-change : (found : Option Note) (forest : Forest) → IfSome found NoteFits → IsShort forest
    → IsShort (changed (option_map put_of found) forest)
short-change found forest fits short = grind (arith, common_steps, with_put-is, short-note) steps 20000

short-more : (tag : List ℕ) (front rest : List (List ℕ)) → IsShort (forest_of (notes_among tag front))
    → FitJournal rest → IsShort (forest_of (notes_among tag (front ++ rest)))
short-more tag front [] short fits =
    subst (λ (bodies : List (List ℕ)). IsShort (forest_of (notes_among tag bodies))) (sym (append-nil front)) short
short-more tag front (body ∷ rest) short fits =
    let here : length body ≤ most = All-head (λ (b : List ℕ). length b ≤ most) body rest fits in
    let more : IsShort (forest_of (notes_among tag (front ++ body ∷ []))) =
    subst IsShort (sym (forest-push tag front body))
    (short-change (note_in tag body) (forest_of (notes_among tag front)) (note-fits tag body here) short) in
    subst (λ (bodies : List (List ℕ)). IsShort (forest_of (notes_among tag bodies)))
    (append_assoc front (body ∷ []) rest)
    (short-more tag (front ++ body ∷ []) rest more (All-tail (λ (b : List ℕ). length b ≤ most) body rest fits))

no-notes : (tag : List ℕ) → IsShort (forest_of (notes_among tag []))
unfolding forest_of
no-notes tag = record { pool = none-short; sealed = tt }

fits-behind : (records : List (List ℕ)) → FitJournal records → FitJournal (drop 1 records)
fits-behind [] fits = fits
fits-behind (body ∷ bodies) fits = All-tail (λ (b : List ℕ). length b ≤ most) body bodies fits

short-records : (records : List (List ℕ)) → FitJournal records → IsShort (forest_in records)
unfolding notes_of
short-records records fits =
    short-more (who_is records).tag [] (drop 1 records) (no-notes (who_is records).tag) (fits-behind records fits)

-- of what an operator keeps
pub short_trees : {H : Type 0} (hash : H) (records : List (List ℕ)) (who : Who) (pool : PoolState H)
    (trees : TreesState H) → IsRight hash records who pool trees → AreShortTrees trees.sealed
short_trees hash records who pool trees right =
    subst AreShortTrees (sym right.sealed_is) (short-records records right.fits).sealed

-- and of the tree of a block
pub short_found : (dig : List ℕ → List ℕ) (log : List RootCall) (sealed : List (List Entry)) (n coin : ℕ)
    (tree : List Entry) → AreShortTrees sealed → Some tree ≡ tree_at dig log sealed n
    → length (leaf_of tree coin) ≤ most
unfolding tree_of
short_found dig log sealed n coin tree short is = grind (arith, common_steps, all-found) steps 20000
