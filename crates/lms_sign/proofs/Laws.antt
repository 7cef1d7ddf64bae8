-- Every signature that is made is valid.
use Rattle.std.proofs.Common.{◌≡◌, ℕ, zero, suc, ◌+◌, ◌-◌, ◌*◌, ◌/◌, ◌%◌, ◌^◌, ◌<◌, ◌≤◌, inl, inr, true, List, [], ◌++◌, take, drop, length, refl, sym, ap, ◌∙◌, arith, zero-add, append_assoc, length-append}
use Rattle.std.proofs.lemmas.Bool.Decides.{nat_tests}
use Rattle.std.proofs.lemmas.Bool.{cases_eq, cases_lt, eq-eqb, lt-ltb, ne_eqb}
use Rattle.std.proofs.lemmas.List.{drop-drop, drop_at, take_at}
use Rattle.std.proofs.lemmas.Nat.{from_be_bytes-to_be_bytes_4, pow_pos}
use Rattle.std.proofs.lemmas.Slice.Eq.{bytes_eq-Decides}
use Rattle.std.proofs.Math.Nat.{pow-suc}
use Rattle.std.specs.Int.{from_be_bytes, to_be_bytes, w32}
use Rattle.sha2.proofs.Facts256.{length-sha256}
use Rattle.lms_sign.specs.declared.types.LmsTypes.{LmsTypes}
use Rattle.lms_sign.specs.declared.secret.Secret.{Secret}
use Rattle.lms_sign.specs.Types.{chain_length, chains, height, is_supported, leaf_count, signature_length, u32_at, u32str}
use Rattle.lms_sign.specs.OneTime.{chain_end, digit, finished_string, concatenation, message_hash, private_element, randomizer, signed_string}
use Rattle.lms_sign.specs.Tree.{authentication_path, public_key_of, sibling, signature_of, tree_node}
use Rattle.lms_sign.specs.Valid.{SignaturesAreValid, candidate_root, id_of, path_place, key_root, randomizer_of, type_place, types_of, ancestor_node, is_formed, is_valid, parent_node, string_of}
use Rattle.lms_sign.proofs.Sizes.{digit-le, leaf_count-le}
use Rattle.lms_sign.proofs.Lists.{chain_value-add, length-chain_at, length-u32str}
use Rattle.lms_sign.proofs.Nodes.{length-tree_node, tree_node-inner, tree_node-leaf}

-- a chain that is finished from its digit's place ends where the whole chain does
finished-end : (secret : Secret) (q i : ℕ) (hash : List ℕ) (given : ℕ → List ℕ)
    → given i ≡ signed_string secret q hash i → finished_string secret.types secret.id q hash given i ≡ chain_end
    secret q i
unfolding finished_string signed_string chain_end
finished-end secret q i hash given e =
    let taken = digit secret.types hash i in
    let total = chain_length secret.types in
    let sum : taken + (total - taken) ≡ total = omega (arith, digit-le secret.types hash i) in
    let from : 0 + taken ≡ taken = zero-add taken in
    let both = chain_value-add secret.id q i 0 taken (total - taken) (private_element secret q i) in
    rw e (sym (rw (sum, from) at both))

concatenation-same : (f g : ℕ → List ℕ) (n : ℕ) → ((i : ℕ) → i < n → f i ≡ g i) → concatenation f n ≡ concatenation g n
unfolding concatenation
concatenation-same f g zero h = refl
concatenation-same f g (suc n) h = rw (concatenation-same f g n (λ i l. h i (omega arith)), h n (omega arith)) refl

length-concatenation : (f : ℕ → List ℕ) (n : ℕ) → ((i : ℕ) → length (f i) ≡ 32) → length (concatenation f n) ≡ 32 * n
unfolding concatenation
length-concatenation f zero h = refl
length-concatenation f (suc n) h = omega (
  arith,
  length-append (concatenation f n) (f n),
  length-concatenation f n h,
  h n,
)

-- the piece at its place
concatenation-at : (f : ℕ → List ℕ) (n i : ℕ) (rest : List ℕ) → ((i : ℕ) → length (f i) ≡ 32) → i < n
    → take 32 (drop (32 * i) (concatenation f n ++ rest)) ≡ f i
unfolding concatenation
concatenation-at f zero i rest h l = absurd (omega arith)
concatenation-at f (suc n) i rest h l =
    elim (cases_lt i n) [
      | inl below ↦ rw (append_assoc (concatenation f n) (f n) rest) (concatenation-at f n i (f n ++ rest) h below)
      | inr last ↦ (let same : i ≡ n = omega arith in
          rw (
            same,
            append_assoc (concatenation f n) (f n) rest,
            drop_at (concatenation f n) (f n ++ rest) (32 * n)
                (length-concatenation f n h),
          ) (take_at (f n) rest 32 (h n)))
    ]

-- the parent by the siblings' order is the tree's
parent-node : (secret : Secret) (r : ℕ) → 2 ≤ r → r < 2 * leaf_count secret.types
    → parent_node secret.id r (tree_node secret (sibling r)) (tree_node secret r) ≡ tree_node secret (r / 2)
parent-node secret r low high =
    let inner = tree_node-inner secret (r / 2) (omega arith) (omega arith) in
    elim (cases_eq (r % 2) 1) [
      | inl odd ↦ (let self : 2 * (r / 2) + 1 ≡ r = omega arith in
          let left : 2 * (r / 2) ≡ r - 1 = omega arith in
          rw (eq-eqb (r % 2) 1 odd) (sym (rw (self, left) at inner)))
      | inr even ↦ (let right : 2 * (r / 2) + 1 ≡ r + 1 = omega arith in
          let self : 2 * (r / 2) ≡ r = omega arith in
          rw (ne_eqb (r % 2) 1 even) (sym (rw (right, self) at inner)))
    ]

-- the climb from a node by its path leads to the root
ancestor_node-path : (secret : Secret) (levels r : ℕ) → 2 ^ levels ≤ r → r < 2 * 2 ^ levels
    → r < 2 * leaf_count secret.types → ancestor_node secret.id levels r (authentication_path secret levels r)
    (tree_node secret r) ≡ tree_node secret 1
unfolding ancestor_node authentication_path
ancestor_node-path secret zero r low high within =
    let one : r ≡ 1 = omega arith in
    ap (tree_node secret) one
ancestor_node-path secret (suc levels) r low high within =
    let least = pow_pos levels in
    let low_here = rw (pow-suc 2 levels) at low in
    let high_here = rw (pow-suc 2 levels) at high in
    let beside = tree_node secret (sibling r) in
    let above = authentication_path secret levels (r / 2) in
    let whole = length-tree_node secret (sibling r) in
    rw (take_at beside above 32 whole, drop_at beside above 32 whole, parent-node secret r (omega arith) within)
    (ancestor_node-path secret levels (r / 2) (omega arith) (omega arith) (omega arith))

-- the middle of three parts by its place and its length
field : (bytes before part after : List ℕ) (place size : ℕ) → bytes ≡ before ++ (part ++ after)
    → length before ≡ place → length part ≡ size → take size (drop place bytes) ≡ part
field bytes before part after place size e l m = rw (e, drop_at before (part ++ after) place l)
    (take_at part after size m)

-- a number by its bytes' place
u32_at-field : (bytes before after : List ℕ) (n place : ℕ) → n < 2 ^ 32 → bytes ≡ before ++ (u32str n ++ after)
    → length before ≡ place → u32_at bytes place ≡ n
unfolding u32_at u32str
u32_at-field bytes before after n place small e l =
    let four : place + 4 - place ≡ 4 = omega arith in
    ap (λ k. from_be_bytes w32 (take k (drop place bytes))) four
    ∙ ap (from_be_bytes w32) (field bytes before (to_be_bytes w32 n) after place 4 e l refl)
    ∙ from_be_bytes-to_be_bytes_4 n small

-- the numbers of a supported pair fit 4 bytes
supported-small : (types : LmsTypes) → is_supported types ≡ true → (types.lms < 2 ^ 32) × (types.ots < 2 ^ 32)
supported-small types h = grind (arith, nat_tests)

length-authentication_path : (secret : Secret) (levels r : ℕ)
    → length (authentication_path secret levels r) ≡ 32 * levels
unfolding authentication_path
length-authentication_path secret zero r = refl
length-authentication_path secret (suc levels) r = omega (
  arith,
  length-append (tree_node secret (sibling r)) (authentication_path secret levels (r / 2)),
  length-tree_node
      secret (sibling r),
  length-authentication_path secret levels (r / 2),
)

-- what a signature has to meet to be valid, by the parts of the key
valid_from : (key message signature id root : List ℕ) (types : LmsTypes) → types_of key ≡ types → id_of key ≡ id
    → key_root key ≡ root → is_formed types signature ≡ true → candidate_root types id message signature ≡ root
    → is_valid key message signature ≡ true
unfolding is_valid
valid_from key message signature id root types t i r f c =
    let formed : is_formed (types_of key) signature ≡ true = ap (λ x. is_formed x signature) t ∙ f in
    let leads : candidate_root (types_of key) (id_of key) message signature ≡ key_root key =
    ap (λ x. candidate_root x (id_of key) message signature) t ∙ ap (λ x. candidate_root types x message signature) i
    ∙ c ∙ sym r in
    rw (formed, leads) ((bytes_eq-Decides (key_root key) (key_root key)).1 refl)

length-signed : (secret : Secret) (q : ℕ) (hash : List ℕ) (i : ℕ) → length (signed_string secret q hash i) ≡ 32
unfolding signed_string
length-signed secret q hash i = length-chain_at secret q i (digit secret.types hash i)

-- the root that the parts of a signature lead to is the tree's, whatever signature they are parts of
leads_to_root : (secret : Secret) (q : ℕ) (message signature : List ℕ) → q < leaf_count secret.types
    → u32_at signature 0 ≡ q
    → randomizer_of signature ≡ randomizer secret q
    → ((i : ℕ) → i < chains secret.types → string_of signature i ≡ signed_string secret q
    (message_hash secret.id q (randomizer secret q) message) i)
    → drop (path_place secret.types) signature ≡ authentication_path secret (height secret.types)
    (leaf_count secret.types + q)
    → candidate_root secret.types secret.id message signature ≡ tree_node secret 1
unfolding candidate_root
leads_to_root secret q message signature leaf at_q at_randomizer at_strings at_path =
    let types = secret.types in
    let r = leaf_count types + q in
    let hash = message_hash secret.id q (randomizer secret q) message in
    let ends : concatenation (finished_string types secret.id q hash (string_of signature)) (chains types) ≡
    concatenation (chain_end secret q) (chains types) =
    concatenation-same _ _ (chains types) (λ i l. finished-end secret q i hash (string_of signature)
    (at_strings i l)) in
    let own : r - leaf_count types ≡ q = omega arith in
    let node = rw own at (tree_node-leaf secret r (omega arith)) in
    rw (at_q, at_randomizer, ends, at_path, ← node)
    (ancestor_node-path secret (height types) r (omega arith) (omega arith) (omega arith))

length-signature_of : (secret : Secret) (q : ℕ) (message : List ℕ)
    → length (signature_of secret q message) ≡ signature_length secret.types
unfolding signature_of
length-signature_of secret q message =
    let c = randomizer secret q in
    let hash = message_hash secret.id q c message in
    let whole : length c ≡ 32 = length-sha256 _ in
    simp length-append (omega (
      arith,
      length-u32str q,
      length-u32str secret.types.ots,
      length-u32str secret.types.lms,
      whole,
      length-concatenation (signed_string secret q hash) (chains secret.types) (length-signed secret q hash),
      length-authentication_path secret (height secret.types) (leaf_count secret.types + q),
    ))

-- where the parts of a public key lie
key-parts : (lms ots : ℕ) (id root : List ℕ) → lms < 2 ^ 32 → ots < 2 ^ 32 → length id ≡ 16
    → let key = u32str lms ++ u32str ots ++ id ++ root in (types_of key ≡ record { lms = lms; ots = ots })
    × (id_of key ≡ id) × (key_root key ≡ root)
key-parts lms ots id root small_lms small_ots whole =
    let key = u32str lms ++ u32str ots ++ id ++ root in
    let eight : length (u32str lms ++ u32str ots) ≡ 8 = simp length-append
    (omega (arith, length-u32str lms, length-u32str ots)) in
    let all : length (u32str lms ++ u32str ots ++ id) ≡ 24 = simp length-append
    (omega (arith, length-u32str lms, length-u32str ots)) in
    let at_lms : u32_at key 0 ≡ lms = u32_at-field key [] (u32str ots ++ (id ++ root)) lms 0 small_lms
    (simp append_assoc) refl in
    let at_ots : u32_at key 4 ≡ ots = u32_at-field key (u32str lms) (id ++ root) ots 4 small_ots (simp append_assoc)
    (length-u32str lms) in (
      rw (at_lms, at_ots) refl,
      field key (u32str lms ++ u32str ots) id root 8 16 (append_assoc _ id root) eight whole,
      drop_at _ root 24 all,
    )

-- a public key has the types that it was made from
pub key-types : (secret : Secret) → is_supported secret.types ≡ true → length secret.id ≡ 16
    → types_of (public_key_of secret) ≡ secret.types
unfolding public_key_of
key-types secret supported whole =
    let small = supported-small secret.types supported in
    (key-parts secret.types.lms secret.types.ots secret.id (tree_node secret 1) small.0 small.1 whole).0

-- where the parts of a signature lie
signature-parts : (q ots lms p : ℕ) (c strings path : List ℕ) → q < 2 ^ 32 → ots < 2 ^ 32 → lms < 2 ^ 32
    → length c ≡ 32 → length strings ≡ 32 * p
    → let signature = u32str q ++ u32str ots ++ c ++ strings ++ u32str lms ++ path in
    (u32_at signature 0 ≡ q) × (u32_at signature 4 ≡ ots) × (randomizer_of signature ≡ c)
    × (drop 40 signature ≡ strings ++ (u32str lms ++ path))
    × (u32_at signature (40 + 32 * p) ≡ lms) × (drop (44 + 32 * p) signature ≡ path)
signature-parts q ots lms p c strings path small_q small_ots small_lms whole_c whole_strings =
    let signature = u32str q ++ u32str ots ++ c ++ strings ++ u32str lms ++ path in
    let eight : length (u32str q ++ u32str ots) ≡ 8 = simp length-append
    (omega (arith, length-u32str q, length-u32str ots)) in
    let forty : length (u32str q ++ u32str ots ++ c) ≡ 40 = simp length-append
    (omega (arith, length-u32str q, length-u32str ots)) in
    let most : length (u32str q ++ u32str ots ++ c ++ strings) ≡ 40 + 32 * p = simp length-append
    (omega (arith, length-u32str q, length-u32str ots)) in
    let all : length (u32str q ++ u32str ots ++ c ++ strings ++ u32str lms) ≡ 44 + 32 * p = simp length-append
    (omega (arith, length-u32str q, length-u32str ots, length-u32str lms)) in
    let from_forty : signature ≡ (u32str q ++ u32str ots ++ c) ++ (strings ++ (u32str lms ++ path)) = simp
    append_assoc in (
      u32_at-field signature [] (u32str ots ++ (c ++ (strings ++ (u32str lms ++ path)))) q 0 small_q
          (simp append_assoc) refl,
      u32_at-field signature (u32str q) (c ++ (strings ++ (u32str lms ++ path))) ots 4 small_ots (simp append_assoc)
          (length-u32str q),
      field signature (u32str q ++ u32str ots) c (strings ++ (u32str lms ++ path)) 8 32 (simp append_assoc) eight
          whole_c,
      rw from_forty (drop_at _ (strings ++ (u32str lms ++ path)) 40 forty),
      u32_at-field signature _ path lms (40 + 32 * p) small_lms (append_assoc _ (u32str lms) path) most,
      drop_at _ path (44 + 32 * p) all,
    )

-- a signature with its length, its types and its leaf is formed
formed_from : (types : LmsTypes) (signature : List ℕ) → is_supported types ≡ true
    → length signature ≡ signature_length types → u32_at signature 4 ≡ types.ots
    → u32_at signature (type_place types) ≡ types.lms → u32_at signature 0 < leaf_count types
    → is_formed types signature ≡ true
formed_from types signature supported whole ots lms leaf =
    rw (supported, eq-eqb _ _ whole, eq-eqb _ _ ots, eq-eqb _ _ lms, lt-ltb _ _ leaf) refl

pub signatures_are_valid : SignaturesAreValid
unfolding signature_of public_key_of string_of
signatures_are_valid secret q message supported whole leaf =
    let types = secret.types in
    let small = supported-small types supported in
    let c = randomizer secret q in
    let hash = message_hash secret.id q c message in
    let strings = concatenation (signed_string secret q hash) (chains types) in
    let path = authentication_path secret (height types) (leaf_count types + q) in
    let signature = signature_of secret q message in
    let of_key = key-parts types.lms types.ots secret.id (tree_node secret 1) small.0 small.1 whole in
    let parts = signature-parts q types.ots types.lms (chains types) c strings path
    (omega (arith, leaf_count-le types)) small.1 small.0 (length-sha256 _)
    (length-concatenation (signed_string secret q hash) (chains types) (length-signed secret q hash)) in
    let string_at : (i : ℕ) → i < chains types → string_of signature i ≡ signed_string secret q hash i =
    λ i l. rw (← drop-drop (32 * i) 40 signature, parts.3)
    (concatenation-at (signed_string secret q hash) (chains types) i (u32str types.lms ++ path)
    (length-signed secret q hash) l) in
    let formed = formed_from types signature supported (length-signature_of secret q message) parts.1 parts.4
    (rw parts.0 leaf) in
    valid_from (public_key_of secret) message signature secret.id (tree_node secret 1) types of_key.0 of_key.1
    of_key.2 formed
    (leads_to_root secret q message signature leaf parts.0 parts.2 string_at parts.5)
