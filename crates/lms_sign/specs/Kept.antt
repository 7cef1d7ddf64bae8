-- What the nodes that a secret key keeps are.
use Rattle.std.specs.Prelude.{◌≡◌, ℕ, ◌*◌, ◌<◌, ◌≤◌, true, List, [], length, slice_index_or}
use Rattle.lms_sign.specs.declared.secret.Secret.{Secret}
use Rattle.lms_sign.specs.Types.{is_supported, leaf_count}
use Rattle.lms_sign.specs.Tree.{tree_node}

-- the nodes from number low on are those of the secret's tree; number 0 names none
abbrev pub AreNodesFrom : Secret → List (List ℕ) → ℕ → Type 0
AreNodesFrom secret nodes low =
    (r : ℕ) → low ≤ r → 0 < r → r < 2 * leaf_count secret.types → slice_index_or nodes r [] ≡ tree_node secret r

-- the types are supported, the identifier has its length, and the nodes are all of the tree's, by number
pub record KeepsTree (secret : Secret) (nodes : List (List ℕ)) : Type 0 where
  pub supported : is_supported secret.types ≡ true
  pub id : length secret.id ≡ 16
  pub whole : length nodes ≡ 2 * leaf_count secret.types
  pub places : AreNodesFrom secret nodes 1
