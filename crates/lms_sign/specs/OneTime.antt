-- The one-time signatures of RFC 8554, section 4. The hash is SHA-256 throughout, and n is 32.
use Rattle.std.specs.Prelude.{ℕ, zero, suc, ◌+◌, ◌-◌, ◌*◌, ◌/◌, ◌%◌, ◌^◌, List, [], ◌++◌, slice_index}
use Rattle.sha2.specs.Sha256.{sha256}
use Rattle.lms_sign.specs.declared.types.LmsTypes.{LmsTypes}
use Rattle.lms_sign.specs.declared.secret.Secret.{Secret}
use Rattle.lms_sign.specs.Types.{chain_length, chains, shift, u16str, u32str, u8str, width}

-- coef(S, i, w): the i-th group of w bits, from the highest bit of the first byte (section 3.1.3)
unfoldable pub coefficient : List ℕ → ℕ → ℕ → ℕ
coefficient bytes i w = slice_index bytes (i * w / 8) / 2 ^ (8 - (w * (i % (8 / w)) + w)) % 2 ^ w

-- by how much the first so many digits of a hash fall short of 2^w - 1, in all (section 4.4)
unfoldable pub shortfall : List ℕ → ℕ → ℕ → ℕ
shortfall hash w zero = 0
shortfall hash w (suc n) = shortfall hash w n + (2 ^ w - 1 - coefficient hash n w)

-- Cksm(Q): the shortfall of all digits of Q, shifted left by ls (section 4.4, algorithm 2)
abbrev pub checksum : LmsTypes → List ℕ → ℕ
checksum types hash = shortfall hash (width types) (256 / width types) * 2 ^ shift types

-- Q || u16str(Cksm(Q)), whose digits say how far the chains are taken (section 4.5)
unfoldable pub hash_with_checksum : LmsTypes → List ℕ → List ℕ
hash_with_checksum types hash = hash ++ u16str (checksum types hash)

-- the i-th digit of Q || Cksm(Q) (section 4.5, algorithm 3)
unfoldable pub digit : LmsTypes → List ℕ → ℕ → ℕ
digit types hash i = coefficient (hash_with_checksum types hash) i (width types)

-- the pieces 0, 1, .., n - 1, one after another
unfoldable pub concatenation : (ℕ → List ℕ) → ℕ → List ℕ
concatenation piece zero = []
concatenation piece (suc n) = concatenation piece n ++ piece n

-- one step of chain i of leaf q, from the string at j (section 4.3, algorithm 1)
abbrev pub chain_step : List ℕ → ℕ → ℕ → ℕ → List ℕ → List ℕ
chain_step id q i j string = sha256 (id ++ u32str q ++ u16str i ++ u8str j ++ string)

-- the string that so many steps of chain i of leaf q lead to, from the string at j (section 4.3, algorithm 1)
unfoldable pub chain_value : List ℕ → ℕ → ℕ → ℕ → ℕ → List ℕ → List ℕ
chain_value id q i j zero string = string
chain_value id q i j (suc steps) string = chain_value id q i (j + 1) steps (chain_step id q i j string)

-- x_q[i], where chain i of leaf q starts (appendix A)
abbrev pub private_element : Secret → ℕ → ℕ → List ℕ
private_element secret q i = sha256 (secret.id ++ u32str q ++ u16str i ++ u8str 0xff ++ secret.seed)

-- the string of chain i of leaf q after so many steps from its start
abbrev pub chain_at : Secret → ℕ → ℕ → ℕ → List ℕ
chain_at secret q i steps = chain_value secret.id q i 0 steps (private_element secret q i)

-- K, the one-time public key of leaf q, from the ends of its chains (section 4.3, algorithm 1)
abbrev pub one_time_key : List ℕ → ℕ → List ℕ → List ℕ
one_time_key id q ends = sha256 (id ++ u32str q ++ u16str 0x8080 ++ ends)

-- z[i], the end of chain i of leaf q
unfoldable pub chain_end : Secret → ℕ → ℕ → List ℕ
chain_end secret q i = chain_at secret q i (chain_length secret.types)

abbrev pub one_time_public : Secret → ℕ → List ℕ
one_time_public secret q = one_time_key secret.id q (concatenation (chain_end secret q) (chains secret.types))

-- C, which the standard leaves to the signer: this project derives it as the element fffd of leaf q (section 4.5)
abbrev pub randomizer : Secret → ℕ → List ℕ
randomizer secret q = sha256 (secret.id ++ u32str q ++ u16str 0xfffd ++ u8str 0xff ++ secret.seed)

-- Q, the hash of a message under the randomizer C (section 4.5, algorithm 3)
abbrev pub message_hash : List ℕ → ℕ → List ℕ → List ℕ → List ℕ
message_hash id q c message = sha256 (id ++ u32str q ++ u16str 0x8181 ++ c ++ message)

-- y[i]: chain i taken as far as its digit of the hash says (section 4.5, algorithm 3)
unfoldable pub signed_string : Secret → ℕ → List ℕ → ℕ → List ℕ
signed_string secret q hash i = chain_at secret q i (digit secret.types hash i)

-- z[i] from y[i], which its digit of the hash places on chain i, and which is taken to the chain's end (section 4.6,
-- algorithm 4b)
unfoldable pub finished_string : LmsTypes → List ℕ → ℕ → List ℕ → (ℕ → List ℕ) → ℕ → List ℕ
finished_string types id q hash given i =
    chain_value id q i (digit types hash i) (chain_length types - digit types hash i) (given i)
