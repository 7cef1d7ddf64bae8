-- The trees, keys and signatures of RFC 8554, section 5.
use Rattle.std.specs.Prelude.{◌≡◌, ℕ, ◌<◌, ◌≤◌, zero, suc, ◌+◌, ◌-◌, ◌*◌, ◌/◌, ◌%◌, nat_le, ◌==◌, if◌then◌else◌, List, [], ◌++◌}
use Rattle.sha2.specs.Sha256.{sha256}
use Rattle.lms_sign.specs.declared.secret.Secret.{Secret}
use Rattle.lms_sign.specs.Types.{chains, height, leaf_count, u16str, u32str}
use Rattle.lms_sign.specs.OneTime.{concatenation, message_hash, one_time_public, randomizer, signed_string}

-- T[r] of a leaf, from the leaf's one-time public key (section 5.3)
abbrev pub leaf_node : List ℕ → ℕ → List ℕ → List ℕ
leaf_node id r key = sha256 (id ++ u32str r ++ u16str 0x8282 ++ key)

-- T[r] of an inner node, from its two children (section 5.3)
abbrev pub inner_node : List ℕ → ℕ → List ℕ → List ℕ → List ℕ
inner_node id r left right = sha256 (id ++ u32str r ++ u16str 0x8383 ++ left ++ right)

-- the node r that has at most so many levels below it: a leaf from 2^h on, else made of its children 2r and 2r + 1
-- (section 5.3)
unfoldable pub node_within : Secret → ℕ → ℕ → List ℕ
node_within secret zero r = leaf_node secret.id r (one_time_public secret (r - leaf_count secret.types))
node_within secret (suc levels) r =
    if nat_le (leaf_count secret.types) r
    then leaf_node secret.id r (one_time_public secret (r - leaf_count secret.types))
    else inner_node secret.id r (node_within secret levels (2 * r)) (node_within secret levels (2 * r + 1))

-- T[r], for r from 1 to 2^(h+1) - 1 (section 5.3)
unfoldable pub tree_node : Secret → ℕ → List ℕ
tree_node secret r = node_within secret (height secret.types) r

-- the nodes as the standard has them: a leaf's is made from its one-time public key, each other from its two children
-- (section 5.3)
abbrev pub NodesAreTheStandards : Type 0
NodesAreTheStandards = (secret : Secret) (r : ℕ)
    → (leaf_count secret.types ≤ r → tree_node secret r ≡ leaf_node secret.id r
    (one_time_public secret (r - leaf_count secret.types)))
    × (0 < r → r < leaf_count secret.types → tree_node secret r ≡ inner_node secret.id r (tree_node secret (2 * r))
    (tree_node secret (2 * r + 1)))

-- the public key: both types, the identifier and the root T[1] (section 5.3)
unfoldable pub public_key_of : Secret → List ℕ
public_key_of secret = u32str secret.types.lms ++ u32str secret.types.ots ++ secret.id ++ tree_node secret 1

-- the other child of a node's parent
abbrev pub sibling : ℕ → ℕ
sibling r = if r % 2 == 1 then r - 1 else r + 1

-- path[0] || path[1] || ..: the siblings of node r and of so many nodes in all, upwards (section 5.4)
unfoldable pub authentication_path : Secret → ℕ → ℕ → List ℕ
authentication_path secret zero r = []
authentication_path secret (suc levels) r = tree_node secret (sibling r) ++ authentication_path secret levels (r / 2)

-- the signature of a message by leaf q: q, the one-time type, C, the chains, the LMS type and the path (section 5.4)
unfoldable pub signature_of : Secret → ℕ → List ℕ → List ℕ
signature_of secret q message =
    u32str q ++ u32str secret.types.ots ++ randomizer secret q
    ++ concatenation (signed_string secret q (message_hash secret.id q (randomizer secret q) message))
    (chains secret.types)
    ++ u32str secret.types.lms ++ authentication_path secret (height secret.types) (leaf_count secret.types + q)
