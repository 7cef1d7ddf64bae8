-- The bytes of two numbers, of a tag and an account, and of short numbers.
use Rattle.node_rules.proofs.Words.{◌≡◌, ℕ, ◌+◌, ◌^◌, ◌<◌, ◌≤◌, List, ◌++◌, length, take, refl, ap, ◌∙◌, arith, slice_range, length-append, take_all, common_steps, AreBytes, number_text, number_at, range-front, range-back, range-join, length-range, bytes-range, number-bytes, number-in, short_number-bytes}
use Rattle.std.specs.Int.{w32, to_be_bytes, from_be_bytes}
use Rattle.std.proofs.lemmas.Nat.{from_be_bytes-to_be_bytes_4}

-- ---- two numbers

-- the numbers that two numbers' bytes spell are they
pub first-read : (one other : ℕ) (rest : List ℕ) → one < 2 ^ 64
    → number_at (number_text one ++ number_text other ++ rest) 0 ≡ one
first-read one other rest small =
    grind (arith, common_steps, number-in, range-front, length-append, take_all) steps 20000

pub second-read : (one other : ℕ) (rest : List ℕ) → other < 2 ^ 64
    → number_at (number_text one ++ number_text other ++ rest) 8 ≡ other
second-read one other rest small =
    grind (arith, common_steps, number-in, range-front, length-append, range-back) steps 20000

-- and their bytes are the first sixteen
pub two-bytes : (bytes : List ℕ) → AreBytes bytes → 16 ≤ length bytes
    → number_text (number_at bytes 0) ++ number_text (number_at bytes 8) ≡ take 16 bytes
two-bytes bytes small long =
    let one : number_text (number_at bytes 0) ≡ take 8 bytes =
    number-bytes (slice_range bytes 0 8) (bytes-range bytes 0 8 small)
    (length-range bytes 0 8 (omega arith) (omega arith)) in
    let other : number_text (number_at bytes 8) ≡ slice_range bytes 8 16 =
    number-bytes (slice_range bytes 8 16) (bytes-range bytes 8 16 small)
    (length-range bytes 8 16 (omega arith) (omega arith)) in
    (λ i. one i ++ other i) ∙ range-join bytes 8 16 (omega arith)

-- a tag and an account are read
pub tag-read : (tag : List ℕ) (account : ℕ) (rest : List ℕ) → length tag ≡ 32
    → slice_range (tag ++ number_text account ++ rest) 0 32 ≡ tag
tag-read tag account rest long =
    range-front (tag ++ number_text account) rest 0 32 (omega arith)
    (omega (arith, length-append tag (number_text account)))
    ∙ range-front tag (number_text account) 0 32 (omega arith) (omega arith)
    ∙ take_all 32 tag (omega arith)

pub account-read : (tag : List ℕ) (account : ℕ) (rest : List ℕ) → length tag ≡ 32 → account < 2 ^ 64
    → number_at (tag ++ number_text account ++ rest) 32 ≡ account
account-read tag account rest long small =
    number-in (tag ++ number_text account ++ rest) 32 account small
    (range-front (tag ++ number_text account) rest 32 40 (omega arith)
    (omega (arith, length-append tag (number_text account)))
    ∙ range-back tag (number_text account) 32 40 long refl)

-- and their bytes are the first forty
pub tag-bytes : (bytes : List ℕ) → AreBytes bytes → 40 ≤ length bytes
    → slice_range bytes 0 32 ++ number_text (number_at bytes 32) ≡ take 40 bytes
tag-bytes bytes small long =
    ap (λ (part : List ℕ). take 32 bytes ++ part) (number-bytes (slice_range bytes 32 40)
    (bytes-range bytes 32 40 small) (length-range bytes 32 40 (omega arith) (omega arith)))
    ∙ range-join bytes 32 40 (omega arith)

-- ---- two numbers alone

pub pair-first : (one other : ℕ) → one < 2 ^ 64 → number_at (number_text one ++ number_text other) 0 ≡ one
pair-first one other small = grind (arith, common_steps, first-read) steps 20000

pub pair-second : (one other : ℕ) → other < 2 ^ 64 → number_at (number_text one ++ number_text other) 8 ≡ other
pair-second one other small = grind (arith, common_steps, second-read) steps 20000

-- ---- numbers of four bytes

-- the number whose bytes a range is
pub short-in : (xs : List ℕ) (place n : ℕ) → n < 2 ^ 32 → slice_range xs place (place + 4) ≡ to_be_bytes w32 n
    → from_be_bytes w32 (slice_range xs place (place + 4)) ≡ n
short-in xs place n lt is = ap (from_be_bytes w32) is ∙ from_be_bytes-to_be_bytes_4 n lt

-- four bytes are those of the number that they spell
pub short-bytes : (xs : List ℕ) (from to : ℕ) → AreBytes xs → from + 4 ≡ to → to ≤ length xs
    → to_be_bytes w32 (from_be_bytes w32 (slice_range xs from to)) ≡ slice_range xs from to
short-bytes xs from to small is fits =
    short_number-bytes (slice_range xs from to) (from_be_bytes w32 (slice_range xs from to))
    (bytes-range xs from to small) (let long = length-range xs from to (omega arith) fits in omega (arith, long)) refl
