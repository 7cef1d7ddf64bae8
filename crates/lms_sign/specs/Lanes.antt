-- Blocks of SHA-256 side by side, and what the steps of several chains begin with.
use Rattle.std.specs.Prelude.{◌≡◌, ℕ, ◌+◌, ◌*◌, ◌/◌, ◌%◌, ◌^◌, ◌<◌, List, [], ◌∷◌, ◌++◌, length, map, slice_index, take}
use Rattle.sha2.specs.Sha256.{compress, digest_bytes, initial_hash_256, rounds, schedule, word_at}
use Rattle.lms_sign.specs.Types.{u8str, u16str, u32str}
use Rattle.lms_sign.specs.declared.lanes.Begun.{Begun}

-- the words are those of the block
abbrev pub HasWords : List ℕ → List ℕ → Type 0
HasWords block words = (length words ≡ 16) × ((k : ℕ) → k < 16 → slice_index words k ≡ word_at block (4 * k))

-- the working variables after the first five rounds of a block
abbrev pub five_rounds : List ℕ → List ℕ
five_rounds block = rounds initial_hash_256 (schedule block 48) 5

-- these are the first five words of every block that begins with the identifier and with the leaf's number
abbrev pub IsLeaf : List ℕ → ℕ → List ℕ → Type 0
IsLeaf id q words = (block : List ℕ) → take 20 block ≡ id ++ u32str q
    → (k : ℕ) → k < 5 → slice_index words k ≡ word_at block (4 * k)

-- these are the first five words and rounds of every block that begins with the identifier and with the leaf's number
abbrev pub IsBegun : List ℕ → ℕ → Begun → Type 0
IsBegun id q begun = IsLeaf id q begun.words
    × ((block : List ℕ) → take 20 block ≡ id ++ u32str q → begun.rounds ≡ five_rounds block)

-- the hash value of a lane, which has one word in each row
abbrev pub lane_hash : List (List ℕ) → ℕ → List ℕ
lane_hash rows k = map (λ row. slice_index row k) rows

-- what pads a message of 55 bytes
abbrev pub block_padding : List ℕ
block_padding = 0x80 ∷ 0 ∷ 0 ∷ 0 ∷ 0 ∷ 0 ∷ 0 ∷ 1 ∷ 0xb8 ∷ []

-- the block of a step of a chain: what it digests, with the padding
abbrev pub step_block : List ℕ → ℕ → ℕ → ℕ → List ℕ → List ℕ
step_block id q i j string = id ++ u32str q ++ u16str i ++ u8str j ++ string ++ block_padding

-- the word of the last three bytes of one word and the first of the next
abbrev pub word_across : ℕ → ℕ → ℕ
word_across first second = first % 2 ^ 24 * 2 ^ 8 + second / 2 ^ 24 % 2 ^ 8

-- the digest of a message that fills one block with its padding
abbrev pub first_digest : List ℕ → List ℕ
first_digest block = digest_bytes (compress initial_hash_256 block) 8
