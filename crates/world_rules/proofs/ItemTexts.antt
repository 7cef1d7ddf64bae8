-- The operator's openings are bytes.
use Rattle.world_rules.proofs.Basics.{ℕ, zero, suc, List, [], ◌∷◌, ◌++◌, map, filter, length, arith, slice_index_or, not, AllByRecursion, concat, range_with_len, common_steps}
use Rattle.world_rules.proofs.CoinWords.{Entry, leaf_of, entry_of, with_leaf, subtree_digest, near_part, far_part, path_below, path_to, all-append, all-filter}
use Rattle.world_rules.proofs.NodeWords.{Small, small-nil, small-append, small-number, small-short, IsSmallOpening}
use Rattle.world_rules.proofs.OperatorWords.{opening_in_tree}
use Rattle.world_rules.proofs.WorldWords.{IsDigest}
use Rattle.sparse_merkle.specs.MaskedPath.{proof_text}
use Rattle.sparse_merkle.specs.PathProof.{is_default_at, kept_siblings, proof_of_path}
use Rattle.plasma_tx.specs.Openings.{opening_text}

-- ---- the operator's trees

abbrev pub IsSmallEntry : Entry → Type 0
IsSmallEntry entry = Small entry.leaf

abbrev pub IsSmallTree : List Entry → Type 0
IsSmallTree tree = AllByRecursion IsSmallEntry tree

leaf-small : (tree : List Entry) (coin : ℕ) → IsSmallTree tree → Small (leaf_of tree coin)
unfolding leaf_of
leaf-small [] coin small = small-nil
leaf-small (entry ∷ entries) coin small = grind (arith, common_steps, leaf-small entries coin small.1)

pub all-join : {X : Type 0} (P : X → Type 0) (xs ys : List X) → AllByRecursion P xs → AllByRecursion P ys
    → AllByRecursion P (xs ++ ys)
all-join P [] ys first second = second
all-join P (x ∷ xs) ys first second = (first.0, all-join P xs ys first.1 second)

entry-small : (coin : ℕ) (leaf : List ℕ) → Small leaf → IsSmallTree (entry_of coin leaf)
entry-small coin leaf small = grind (arith, common_steps)

pub tree-with : (tree : List Entry) (coin : ℕ) (leaf : List ℕ) → IsSmallTree tree → Small leaf
    → IsSmallTree (with_leaf tree coin leaf)
tree-with tree coin leaf small leaf_small = grind (arith, common_steps, all-join, all-filter, entry-small)

-- ---- the operator's openings

-- digests of the parts of a tree are bytes
digest-small : (dig : List ℕ → List ℕ) → IsDigest dig → (level : ℕ) (tree : List Entry)
    → Small (subtree_digest dig level tree)
unfolding subtree_digest
digest-small dig is zero tree = record { are = (is _).1 }
digest-small dig is (suc level) tree = record { are = (is _).1 }

abbrev AreSmallAll : List (List ℕ) → Type 0
AreSmallAll texts = AllByRecursion Small texts

path-small : (dig : List ℕ → List ℕ) → IsDigest dig → (coin level : ℕ) (tree : List Entry)
    → AreSmallAll (path_below dig coin level tree)
unfolding path_below
path-small dig is coin zero tree = tt
path-small dig is coin (suc level) tree =
    all-append Small (path_below dig coin level (near_part coin level tree))
    (subtree_digest dig level (far_part coin level tree))
    (path-small dig is coin level (near_part coin level tree)) (digest-small dig is level (far_part coin level tree))

place-small : (texts : List (List ℕ)) (i : ℕ) → AreSmallAll texts → Small (slice_index_or texts i [])
place-small [] i small = small-nil
place-small (text ∷ texts) zero small = small.0
place-small (text ∷ texts) (suc i) small = place-small texts i small.1

siblings-small : (path : List (List ℕ)) (levels : List ℕ) → AreSmallAll path
    → Small (concat (map (λ level. slice_index_or path level []) levels))
siblings-small path [] small = small-nil
siblings-small path (level ∷ levels) small =
    small-append (place-small path level small) (siblings-small path levels small)

pub opening-small : (dig : List ℕ → List ℕ) → IsDigest dig → (coin n : ℕ) (tree : List Entry) → IsSmallTree tree
    → IsSmallOpening (opening_in_tree dig coin n tree)
unfolding opening_text proof_text proof_of_path kept_siblings path_to
opening-small dig is coin n tree small =
    let path = path_to dig coin tree in
    small-append
    (small-append (small-short (length (leaf_of tree coin))) (leaf-small tree coin small))
    (small-append (small-number (proof_of_path dig path).mask)
    (siblings-small path (filter (λ level. not (is_default_at dig path level)) (range_with_len 0 64))
    (path-small dig is coin 64 tree)))
