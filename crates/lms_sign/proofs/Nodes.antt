-- The nodes of a tree by their numbers.
use Rattle.std.proofs.Common.{◌≡◌, ◌≢◌, ℕ, zero, suc, ◌+◌, ◌-◌, ◌*◌, ◌/◌, ◌%◌, ◌++◌, ◌^◌, ◌<◌, ◌≤◌, inl, inr, List, [], length, get_or, set, refl, sym, ◌∙◌, arith, add-one, get_or-set_same, get_or-set_other}
use Rattle.std.proofs.lemmas.Bool.{cases_eq, cases_lt, eq-eqb, le-leb, lt-leb, ne_eqb}
use Rattle.std.proofs.Math.Nat.{mul-le-mul_left, pow-suc}
use Rattle.sha2.proofs.Facts256.{length-sha256}
use Rattle.lms_sign.specs.declared.secret.Secret.{Secret}
use Rattle.lms_sign.specs.Types.{height, leaf_count}
use Rattle.lms_sign.specs.OneTime.{one_time_public}
use Rattle.lms_sign.specs.Tree.{inner_node, leaf_node, node_within, authentication_path, sibling, tree_node}

-- the node of a leaf, by its number
abbrev leaf_at : Secret → ℕ → List ℕ
leaf_at secret r = leaf_node secret.id r (one_time_public secret (r - leaf_count secret.types))

within-leaf : (secret : Secret) (levels r : ℕ) → leaf_count secret.types ≤ r
    → node_within secret levels r ≡ leaf_at secret r
unfolding node_within
within-leaf secret zero r h = refl
within-leaf secret (suc levels) r h = rw (le-leb (leaf_count secret.types) r h) refl

within-inner : (secret : Secret) (levels r : ℕ) → r < leaf_count secret.types
    → node_within secret (suc levels) r ≡ inner_node secret.id r (node_within secret levels (2 * r))
    (node_within secret levels (2 * r + 1))
unfolding node_within
within-inner secret levels r h = rw (lt-leb (leaf_count secret.types) r h) refl

double_le : (n r : ℕ) → 0 < r → n * 2 ≤ n * (2 * r)
double_le n r p = mul-le-mul_left n (omega arith)

-- levels that are not there make no difference
within-more : (secret : Secret) (levels r : ℕ) → leaf_count secret.types ≤ 2 ^ levels * r
    → node_within secret (suc levels) r ≡ node_within secret levels r
within-more secret zero r h =
    let leaf : leaf_count secret.types ≤ r = omega arith in
    within-leaf secret (suc zero) r leaf ∙ sym (within-leaf secret zero r leaf)
within-more secret (suc levels) r h =
    elim (cases_lt r (leaf_count secret.types)) [
      | inl inner ↦ (let below = rw (pow-suc 2 levels) at h in
          rw (
            within-inner secret (suc levels) r inner,
            within-inner secret levels r inner,
            within-more secret levels
                (2 * r) (omega (arith, below)),
            within-more secret levels (2 * r + 1) (omega (arith, below)),
          ) refl)
      | inr leaf ↦ within-leaf secret (suc (suc levels)) r leaf ∙ sym (within-leaf secret (suc levels) r leaf)
    ]

inner_within : (secret : Secret) (levels r : ℕ) → height secret.types ≡ levels → 0 < r → r < leaf_count secret.types
    → node_within secret levels r ≡ inner_node secret.id r (node_within secret levels (2 * r))
    (node_within secret levels (2 * r + 1))
inner_within secret zero r e p h =
    let one : r < 1 = rw e at h in
    absurd (omega arith)
inner_within secret (suc levels) r e p h =
    let below : leaf_count secret.types ≤ 2 ^ levels * (2 * r) = rw (e, pow-suc 2 levels)
    (double_le (2 ^ levels) r p) in
    let beside : leaf_count secret.types ≤ 2 ^ levels * (2 * r + 1) = omega arith in
    within-inner secret levels r h ∙ rw (
      within-more secret levels (2 * r) below,
      within-more secret levels
          (2 * r + 1) beside,
    ) refl

length-within : (secret : Secret) (levels r : ℕ) → length (node_within secret levels r) ≡ 32
unfolding node_within
length-within secret zero r = length-sha256 _
length-within secret (suc levels) r =
    elim (cases_lt r (leaf_count secret.types)) [
      | inl inner ↦ rw (within-inner secret levels r inner) (length-sha256 _)
      | inr leaf ↦
          rw (within-leaf secret (suc levels) r leaf) (length-sha256 _)
    ]

-- T[r] of a leaf
pub tree_node-leaf : (secret : Secret) (r : ℕ) → leaf_count secret.types ≤ r → tree_node secret r ≡ leaf_at secret r
unfolding tree_node
tree_node-leaf secret r h = within-leaf secret (height secret.types) r h

-- T[r] of an inner node
pub tree_node-inner : (secret : Secret) (r : ℕ) → 0 < r → r < leaf_count secret.types
    → tree_node secret r ≡ inner_node secret.id r (tree_node secret (2 * r)) (tree_node secret (2 * r + 1))
unfolding tree_node
tree_node-inner secret r p h = inner_within secret (height secret.types) r refl p h

pub length-tree_node : (secret : Secret) (r : ℕ) → length (tree_node secret r) ≡ 32
unfolding tree_node
length-tree_node secret r = length-within secret (height secret.types) r

pub half_low : (n m r : ℕ) → n ≡ m + 1 → 2 ^ n ≤ r → 2 ^ m ≤ r / 2
half_low n m r e h =
    let twice = rw (e, add-one, pow-suc 2 m) at h in
    omega arith

pub sibling-within : (r leaves : ℕ) → 2 ≤ r → r < 2 * leaves → (0 < sibling r) × (sibling r < 2 * leaves)
sibling-within r leaves low high =
    elim (cases_eq (r % 2) 1) [
      | inl odd ↦ rw (eq-eqb (r % 2) 1 odd) (omega arith, omega arith)
      | inr even ↦
          rw (ne_eqb (r % 2) 1 even) (omega arith, omega arith)
    ]

pub authentication_path-none : (secret : Secret) (n r : ℕ) → n ≡ 0 → authentication_path secret n r ≡ []
unfolding authentication_path
authentication_path-none secret n r e = rw e refl

pub authentication_path-more : (secret : Secret) (n m r : ℕ) → n ≡ m + 1
    → authentication_path secret n r ≡ tree_node secret (sibling r) ++ authentication_path secret m (r / 2)
unfolding authentication_path
authentication_path-more secret n m r e = rw (e, add-one) refl

-- after a write of a node's place, each place has what it should
pub set_node : (node : ℕ → List ℕ) (nodes : List (List ℕ)) (r n : ℕ) (x : List ℕ) → r < length nodes → x ≡ node r
    → (n ≢ r → get_or nodes n [] ≡ node n) → get_or (set nodes r x) n [] ≡ node n
set_node node nodes r n x l e others =
    elim (cases_eq n r) [ inl same ↦ rw (same, get_or-set_same) e | inr other ↦ rw get_or-set_other (others other) ]
