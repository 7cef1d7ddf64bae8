-- Texts of numbers, digests, keys, bodies and signatures are bytes.
use Rattle.node_replies.proofs.Names.{◌≡◌, ℕ, zero, suc, ◌+◌, ◌-◌, ◌*◌, ◌<◌, ◌%◌, ◌/◌, true, false, if◌then◌else◌, List, [], ◌∷◌, ◌++◌, length, Option, Some, None, subst, arith, lit<, nat_le, slice_index, take, drop, replicate, common_steps, Owner, AreBytes, number_text, owner_text, mark_of, last_text, body_text}
use Rattle.std.specs.Int.{w32, to_be_bytes}
use Rattle.std.proofs.Math.Nat.{mod-lt}
use Rattle.std.proofs.Math.Seq.{take-append_seam, drop-append_seam}
use Rattle.std.proofs.lemmas.List.{length-append}
use Rattle.std.proofs.lemmas.List.Elements.{All-nil, All-cons, All-append, All-take, All-drop, All-replicate}
use Rattle.sha2.specs.Sha256.{sha256, digest_bytes, final_hash, initial_hash_256}
use Rattle.lms_sign.specs.declared.secret.Secret.{Secret}
use Rattle.lms_sign.specs.Types.{u32str, chains, height, leaf_count}
use Rattle.lms_sign.specs.OneTime.{digit, concatenation, chain_step, chain_value, private_element, one_time_public, randomizer, message_hash, signed_string}
use Rattle.lms_sign.specs.Tree.{leaf_node, inner_node, node_within, tree_node, public_key_of, sibling, authentication_path, signature_of}
use Rattle.lms_sign.proofs.Lists.{length-u32str}
use Rattle.lms_sign.proofs.Nodes.{length-tree_node}
use Rattle.plasma_tx.specs.declared.body.Body.{Body}

-- the numbers are bytes; a record, so that its list can be found from it
pub record Small (bytes : List ℕ) : Type 0 where
  pub are : AreBytes bytes

pub small-nil : Small []
small-nil = record { are = All-nil (λ byte. byte < 256) }

pub small-cons : {bytes : List ℕ} (byte : ℕ) → byte < 256 → Small bytes → Small (byte ∷ bytes)
small-cons {bytes} byte low small = record { are = All-cons (λ b. b < 256) byte bytes low small.are }

pub small-append : {one other : List ℕ} → Small one → Small other → Small (one ++ other)
small-append {one} {other} first second =
    record { are = All-append (λ byte. byte < 256) one other first.are second.are }

pub small-take : {bytes : List ℕ} (n : ℕ) → Small bytes → Small (take n bytes)
small-take {bytes} n small = record { are = All-take (λ byte. byte < 256) n bytes small.are }

pub small-drop : {bytes : List ℕ} (n : ℕ) → Small bytes → Small (drop n bytes)
small-drop {bytes} n small = record { are = All-drop (λ byte. byte < 256) n bytes small.are }

-- ---- numbers

low-byte : {bytes : List ℕ} (n : ℕ) → Small bytes → Small (n % 256 ∷ bytes)
low-byte n small = small-cons (n % 256) (mod-lt n (lit< tt)) small

pub small-number : (n : ℕ) → Small (number_text n)
small-number n =
    low-byte _ (low-byte _ (low-byte _ (low-byte _ (low-byte _ (low-byte _ (low-byte _ (low-byte n small-nil)))))))

pub small-short : (n : ℕ) → Small (to_be_bytes w32 n)
small-short n = low-byte _ (low-byte _ (low-byte _ (low-byte n small-nil)))

-- ---- digests, keys and signatures

digest-bytes : (hash : List ℕ) (n : ℕ) → Small (digest_bytes hash n)
unfolding digest_bytes
digest-bytes hash zero = small-nil
digest-bytes hash (suc n) = small-append (digest-bytes hash n) (small-short (slice_index hash n))

pub small-sha256 : (message : List ℕ) → Small (sha256 message)
unfolding sha256
small-sha256 message = digest-bytes (final_hash initial_hash_256 message) 8

small-within : (secret : Secret) (levels r : ℕ) → Small (node_within secret levels r)
unfolding node_within
small-within secret zero r = small-sha256 _
small-within secret (suc levels) r =
    elim (nat_le (leaf_count secret.types) r) as (λ b. Small
    (if b then leaf_node secret.id r (one_time_public secret (r - leaf_count secret.types))
    else inner_node secret.id r (node_within secret levels (2 * r)) (node_within secret levels (2 * r + 1)))) [
      | true ↦ small-sha256 _
      | false ↦ small-sha256 _
    ]

small-node : (secret : Secret) (r : ℕ) → Small (tree_node secret r)
unfolding tree_node
small-node secret r = small-within secret (height secret.types) r

small-u32 : (n : ℕ) → Small (u32str n)
unfolding u32str
small-u32 n = small-short n

-- a public key is bytes, 56 of them, where its identifier is 16
pub small-key : (secret : Secret) → Small secret.id → Small (public_key_of secret)
unfolding public_key_of
small-key secret small =
    small-append (small-append (small-append (small-u32 secret.types.lms) (small-u32 secret.types.ots)) small)
    (small-node secret 1)

pub length-key : (secret : Secret) → length secret.id ≡ 16 → length (public_key_of secret) ≡ 56
unfolding public_key_of
length-key secret long =
    simp length-append (grind (arith, common_steps, length-u32str, length-tree_node) steps 20000)

small-path : (secret : Secret) (levels r : ℕ) → Small (authentication_path secret levels r)
unfolding authentication_path
small-path secret zero r = small-nil
small-path secret (suc levels) r = small-append (small-node secret (sibling r)) (small-path secret levels (r / 2))

small-chain : (id : List ℕ) (q i j steps : ℕ) (string : List ℕ) → Small string
    → Small (chain_value id q i j steps string)
unfolding chain_value
small-chain id q i j zero string small = small
small-chain id q i j (suc steps) string small =
    small-chain id q i (j + 1) steps (chain_step id q i j string) (small-sha256 _)

small-string : (secret : Secret) (q : ℕ) (hash : List ℕ) (i : ℕ) → Small (signed_string secret q hash i)
unfolding signed_string
small-string secret q hash i =
    small-chain secret.id q i 0 (digit secret.types hash i) (private_element secret q i) (small-sha256 _)

small-joined : (piece : ℕ → List ℕ) → ((i : ℕ) → Small (piece i)) → (n : ℕ) → Small (concatenation piece n)
unfolding concatenation
small-joined piece each zero = small-nil
small-joined piece each (suc n) = small-append (small-joined piece each n) (each n)

pub small-signature : (secret : Secret) (q : ℕ) (message : List ℕ) → Small (signature_of secret q message)
unfolding signature_of
small-signature secret q message =
    let hash = message_hash secret.id q (randomizer secret q) message in
    small-append
    (small-append
    (small-append
    (small-append (small-append (small-u32 q) (small-u32 secret.types.ots)) (small-sha256 _))
    (small-joined (signed_string secret q hash) (small-string secret q hash) (chains secret.types)))
    (small-u32 secret.types.lms))
    (small-path secret (height secret.types) (leaf_count secret.types + q))

-- ---- bodies

pub small-owner : (owner : Owner) → Small owner.key → Small (owner_text owner)
unfolding owner_text
small-owner owner small = small-append (small-number owner.account) small

small-mark : (last : Option ℕ) → Small (mark_of last)
small-mark None =
    small-cons 80 (lit< tt) (small-cons 67 (lit< tt) (small-cons 84 (lit< tt) (small-cons 49 (lit< tt) small-nil)))
small-mark (Some last) =
    small-cons 80 (lit< tt) (small-cons 67 (lit< tt) (small-cons 84 (lit< tt) (small-cons 50 (lit< tt) small-nil)))

small-last : (last : Option ℕ) → Small (last_text last)
small-last None = small-nil
small-last (Some last) = small-number last

pub small-body : (body : Body) → Small body.tag → Small body.to.key → Small (body_text body)
unfolding body_text
small-body body tag key =
    small-append
    (small-append
    (small-append (small-append (small-append (small-mark body.last) tag) (small-number body.coin))
    (small-number body.parent))
    (small-owner body.to key))
    (small-last body.last)

-- ---- parts

pub small-front : (front bytes : List ℕ) → Small (front ++ bytes) → Small front
small-front front bytes small = subst Small (take-append_seam front bytes) (small-take (length front) small)

pub small-back : (front bytes : List ℕ) → Small (front ++ bytes) → Small bytes
small-back front bytes small = subst Small (drop-append_seam front bytes) (small-drop (length front) small)

-- ---- zeros

pub small-zeros : (n : ℕ) → Small (replicate n 0)
small-zeros n = record { are = All-replicate (λ byte. byte < 256) n 0 (lit< tt) }
