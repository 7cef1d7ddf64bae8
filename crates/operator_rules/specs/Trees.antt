-- The pool, which is what the next tree will have, and the trees that were sealed; and what a tree shows of a coin.
use Rattle.std.specs.Prelude.{ℕ, ◌&&◌, ◌||◌, not, Bool, List, [], ◌∷◌, ◌++◌, find, Option}
use Rattle.std.specs.List.{list_any}
use Rattle.std.specs.Option.{option_and_then}
use Rattle.std.specs.Str.{bytes_eq}
use Rattle.sparse_merkle.specs.{declared.tree.Entry.{Entry}, TreeDigest.{leaf_of, with_leaf, root_of, path_to}, PathProof.{proof_of_path}}
use Rattle.plasma_tx.specs.{declared.opening.RawOpening.{RawOpening}, declared.call.RootCall.{RootCall}, Openings.{raw_of}, Spelling.{number_at}, Shown.{root_at}}
pub use Rattle.plasma_tx.specs.Views.{commits, is_root_committed}
use Rattle.coin_history.specs.History.{is_empty}
use Rattle.operator_rules.specs.Records.{Note, Offered, Laid, Sealed}

-- the pool, and the sealed trees in the order of their seals
pub record Forest : Type 0 where
  pub pool : List Entry
  pub sealed : List (List Entry)

-- the coin that the bytes of a signed transfer name
abbrev pub coin_named : List ℕ → ℕ
coin_named bytes = number_at bytes 36

-- An offered transfer is put at its coin. Laid bytes are put in place of what was there, and empty ones remove. A seal
-- makes the pool a tree and empties it.
abbrev pub after_note : Note → Forest → Forest
after_note (Offered bytes) forest = record forest { pool = with_leaf forest.pool (coin_named bytes) bytes }
after_note (Laid coin bytes) forest = record forest { pool = with_leaf forest.pool coin bytes }
after_note Sealed forest = record { pool = []; sealed = forest.sealed ++ forest.pool ∷ [] }

-- what notes leave, the newest first
unfoldable pub forest_of : List Note → Forest
forest_of [] = record { pool = []; sealed = [] }
forest_of (note ∷ notes) = after_note note (forest_of notes)

-- the first sealed tree with the root
unfoldable pub tree_of : (List ℕ → List ℕ) → List (List Entry) → List ℕ → Option (List Entry)
tree_of dig sealed root = find (λ tree. bytes_eq (root_of dig tree) root) sealed

-- the tree of block n: the first sealed tree whose root is the block's
abbrev pub tree_at : (List ℕ → List ℕ) → List RootCall → List (List Entry) → ℕ → Option (List Entry)
tree_at dig log sealed n = option_and_then (tree_of dig sealed) (root_at log n)

-- the opening of block n that shows what a tree has at a coin
abbrev pub opening_in_tree : (List ℕ → List ℕ) → ℕ → ℕ → List Entry → RawOpening
opening_in_tree dig coin n tree =
    raw_of (record { block = n; leaf = leaf_of tree coin; proof = proof_of_path dig (path_to dig coin tree) })

-- the tree has a leaf of the coin
abbrev pub has_leaf : List Entry → ℕ → Bool
has_leaf tree coin = not (is_empty (leaf_of tree coin))

-- the pool has a leaf of the coin, or a sealed tree has one whose root the log doesn't commit
abbrev pub is_waiting : (List ℕ → List ℕ) → List RootCall → Forest → ℕ → Bool
is_waiting dig log forest coin =
    has_leaf forest.pool coin
    || list_any (λ tree. has_leaf tree coin && not (is_root_committed log (root_of dig tree))) forest.sealed
