-- When a signature is valid (RFC 8554, sections 4.6 and 5.4.2).
use Rattle.std.specs.Prelude.{◌≡◌, ℕ, zero, suc, ◌+◌, ◌*◌, ◌/◌, ◌%◌, ◌<◌, Bool, true, ◌&&◌, ◌==◌, nat_lt, if◌then◌else◌, List, length, take, drop, slice_range}
use Rattle.std.specs.Str.{bytes_eq}
use Rattle.lms_sign.specs.declared.types.LmsTypes.{LmsTypes}
use Rattle.lms_sign.specs.declared.secret.Secret.{Secret}
use Rattle.lms_sign.specs.Types.{chains, height, is_supported, leaf_count, signature_length, u32_at}
use Rattle.lms_sign.specs.OneTime.{finished_string, concatenation, message_hash, one_time_key}
use Rattle.lms_sign.specs.Tree.{inner_node, leaf_node, public_key_of, signature_of}

-- the parts of a public key: its types, its identifier and its root (section 5.3)
abbrev pub types_of : List ℕ → LmsTypes
types_of key = record { lms = u32_at key 0; ots = u32_at key 4 }

abbrev pub id_of : List ℕ → List ℕ
id_of key = slice_range key 8 24

abbrev pub key_root : List ℕ → List ℕ
key_root key = drop 24 key

-- C and y[i] of a signature, and where its LMS type and its path lie (section 5.4)
abbrev pub randomizer_of : List ℕ → List ℕ
randomizer_of signature = slice_range signature 8 40

unfoldable pub string_of : List ℕ → ℕ → List ℕ
string_of signature i = take 32 (drop (40 + 32 * i) signature)

abbrev pub type_place : LmsTypes → ℕ
type_place types = 40 + 32 * chains types

abbrev pub path_place : LmsTypes → ℕ
path_place types = 44 + 32 * chains types

-- the types of the key are supported, and the signature has its length, the key's two types and a leaf of the tree
-- (section 5.4.2, algorithm 6a)
abbrev pub is_formed : LmsTypes → List ℕ → Bool
is_formed types signature =
    is_supported types && (length signature == signature_length types)
    && (u32_at signature 4 == types.ots) && (u32_at signature (type_place types) == types.lms)
    && nat_lt (u32_at signature 0) (leaf_count types)

-- Kc, the one-time public key that a signature of the message speaks for (section 4.6, algorithm 4b)
abbrev pub candidate : LmsTypes → List ℕ → ℕ → List ℕ → List ℕ → List ℕ
candidate types id q message signature =
    let hash = message_hash id q (randomizer_of signature) message in
    one_time_key id q (concatenation (finished_string types id q hash (string_of signature)) (chains types))

-- the parent of node r, from the node's sibling and itself: at an odd number the sibling stands left (section 5.4.2,
-- algorithm 6a)
abbrev pub parent_node : List ℕ → ℕ → List ℕ → List ℕ → List ℕ
parent_node id r beside node = if r % 2 == 1 then inner_node id (r / 2) beside node else inner_node id (r / 2) node
    beside

-- the node so many levels above node r, by the siblings that the path gives (section 5.4.2, algorithm 6a)
unfoldable pub ancestor_node : List ℕ → ℕ → ℕ → List ℕ → List ℕ → List ℕ
ancestor_node id zero r path node = node
ancestor_node id (suc levels) r path node = ancestor_node id levels (r / 2) (drop 32 path)
    (parent_node id r (take 32 path) node)

-- Tc, the root that a signature of the message leads to (section 5.4.2, algorithm 6a)
unfoldable pub candidate_root : LmsTypes → List ℕ → List ℕ → List ℕ → List ℕ
candidate_root types id message signature =
    let q = u32_at signature 0 in
    ancestor_node id (height types) (leaf_count types + q) (drop (path_place types) signature)
    (leaf_node id (leaf_count types + q) (candidate types id q message signature))

-- whether the signature of the message is valid under the public key (section 5.4.2, algorithm 6)
unfoldable pub is_valid : List ℕ → List ℕ → List ℕ → Bool
is_valid key message signature =
    is_formed (types_of key) signature
    && bytes_eq (candidate_root (types_of key) (id_of key) message signature) (key_root key)

-- the signature of the message is valid under the public key
abbrev pub IsValid : List ℕ → List ℕ → List ℕ → Type 0
IsValid key message signature = is_valid key message signature ≡ true

-- every signature by a leaf of the key's tree is valid under the key's public key
abbrev pub SignaturesAreValid : Type 0
SignaturesAreValid = (secret : Secret) (q : ℕ) (message : List ℕ) → is_supported secret.types ≡ true
    → length secret.id ≡ 16 → q < leaf_count secret.types
    → IsValid (public_key_of secret) message (signature_of secret q message)
