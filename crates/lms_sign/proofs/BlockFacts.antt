-- The block of a step of a chain: its words, and the digest of its message.
use Rattle.std.proofs.Common.{subst, inl, inr, ◌≡◌, ℕ, zero, suc, ◌+◌, ◌-◌, ◌*◌, ◌/◌, ◌%◌, ◌^◌, ◌<◌, ◌≤◌, List, [], ◌∷◌, ◌++◌, ◌∙◌, take, get_or, length, slice_index, ap, sym, arith, append_assoc, length-append, refl}
use Rattle.std.proofs.lemmas.List.{get_or-append_right, take-append-le, take_all, take_more}
use Rattle.std.proofs.lemmas.Bool.{cases_lt}
use Rattle.std.proofs.lemmas.Nat.{be_bytes_4}
use Rattle.sha2.specs.Sha256.{compress, digest_bytes, hash_after, initial_hash_256, sha256, word_at}
use Rattle.std.specs.Int.{w32, from_be_bytes, to_be_bytes}
use Rattle.lms_sign.specs.Types.{u8str, u16str, u32str}
use Rattle.lms_sign.specs.OneTime.{chain_step}
use Rattle.lms_sign.specs.Lanes.{HasWords, IsLeaf, block_padding, first_digest, step_block, word_across}
use Rattle.lms_sign.proofs.Lists.{length-u8str, length-u16str, length-u32str}

sha256-block : (m : List ℕ) → length m ≡ 55 → sha256 m ≡ first_digest (m ++ block_padding)
unfolding sha256 hash_after
sha256-block m e =
    let block = m ++ block_padding in
    let long : length block ≡ 64 = omega (arith, length-append m block_padding) in
    let one : hash_after initial_hash_256 block (length block / 64) ≡ compress initial_hash_256 block =
    rw (long, take_all 64 block (omega arith)) refl in
    rw e (ap (λ (h : List ℕ). digest_bytes h 8) one)

-- the digest of a step's block is the step
pub step_block-digest : (id : List ℕ) (q i j : ℕ) (string : List ℕ) → length id ≡ 16 → length string ≡ 32
    → first_digest (step_block id q i j string) ≡ chain_step id q i j string
step_block-digest id q i j string of_id of_string =
    let message = id ++ u32str q ++ u16str i ++ u8str j ++ string in
    let long : length message ≡ 55 = simp (length-append, length-u32str, length-u16str, length-u8str) (omega arith) in
    sym (sha256-block message long)

-- every step's block of a leaf begins with the same 20 bytes
pub step_block-begins : (id : List ℕ) (q i j : ℕ) (string : List ℕ) → length id ≡ 16
    → take 20 (step_block id q i j string) ≡ id ++ u32str q
step_block-begins id q i j string of_id =
    let front = id ++ u32str q in
    let a = u16str i in
    let b = u8str j in
    let long : length front ≡ 20 = omega (arith, length-append id (u32str q), length-u32str q) in
    take-append-le 20 (front ++ a ++ b ++ string) block_padding (omega (
      arith,
      length-append (front ++ a ++ b) string,
      length-append (front ++ a) b,
      length-append front a,
    ))
    ∙ take-append-le 20 (front ++ a ++ b) string (omega (arith, length-append (front ++ a) b, length-append front a))
    ∙ take-append-le 20 (front ++ a) b (omega (arith, length-append front a))
    ∙ take-append-le 20 front a (omega arith)
    ∙ take_all 20 front (omega arith)

-- a word behind 16 bytes
word_at-tail : (front rest : List ℕ) (i : ℕ) → length front ≡ 16 → 16 ≤ i → word_at (front ++ rest) i
    ≡ from_be_bytes w32 (slice_index rest (i - 16) ∷ slice_index rest (i + 1 - 16) ∷ slice_index rest (i + 2 - 16)
    ∷ slice_index rest (i + 3 - 16) ∷ [])
word_at-tail front rest i e behind =
    let first = get_or-append_right front rest 16 i 0 e behind in
    let second = get_or-append_right front rest 16 (i + 1) 0 e (omega arith) in
    let third = get_or-append_right front rest 16 (i + 2) 0 e (omega arith) in
    let fourth = get_or-append_right front rest 16 (i + 3) 0 e (omega arith) in
    (λ i. from_be_bytes w32 (first i ∷ second i ∷ third i ∷ fourth i ∷ []))

-- the block of a step, without the identifier
tail : ℕ → ℕ → ℕ → List ℕ → List ℕ
tail q i j string = u32str q ++ (u16str i ++ (u8str j ++ (string ++ block_padding)))

step_block-tail : (id : List ℕ) (q i j : ℕ) (string : List ℕ) → step_block id q i j string ≡ id ++ tail q i j string
unfolding tail
step_block-tail id q i j string =
    let a = u32str q in
    let b = u16str i in
    let c = u8str j in
    append_assoc (id ++ a ++ b ++ c) string block_padding
    ∙ append_assoc (id ++ a ++ b) c (string ++ block_padding)
    ∙ append_assoc (id ++ a) b (c ++ (string ++ block_padding))
    ∙ append_assoc id a (b ++ (c ++ (string ++ block_padding)))

-- what holds of each number below four, and below sixteen
below_four : (P : ℕ → Type 0) → P 0 → P 1 → P 2 → P 3 → (k : ℕ) → k < 4 → P k
below_four P p0 p1 p2 p3 zero h = p0
below_four P p0 p1 p2 p3 (suc zero) h = p1
below_four P p0 p1 p2 p3 (suc (suc zero)) h = p2
below_four P p0 p1 p2 p3 (suc (suc (suc zero))) h = p3
below_four P p0 p1 p2 p3 (suc (suc (suc (suc n)))) h = absurd (omega arith)

pub below_five : (P : ℕ → Type 0) → P 0 → P 1 → P 2 → P 3 → P 4 → (k : ℕ) → k < 5 → P k
below_five P p0 p1 p2 p3 p4 zero h = p0
below_five P p0 p1 p2 p3 p4 (suc k) h = below_four (λ i. P (suc i)) p1 p2 p3 p4 k (omega arith)

below_eight : (P : ℕ → Type 0) → P 0 → P 1 → P 2 → P 3 → P 4 → P 5 → P 6 → P 7 → (k : ℕ) → k < 8 → P k
below_eight P p0 p1 p2 p3 p4 p5 p6 p7 zero h = p0
below_eight P p0 p1 p2 p3 p4 p5 p6 p7 (suc zero) h = p1
below_eight P p0 p1 p2 p3 p4 p5 p6 p7 (suc (suc zero)) h = p2
below_eight P p0 p1 p2 p3 p4 p5 p6 p7 (suc (suc (suc zero))) h = p3
below_eight P p0 p1 p2 p3 p4 p5 p6 p7 (suc (suc (suc (suc k)))) h =
    below_four (λ i. P (suc (suc (suc (suc i))))) p4 p5 p6 p7 k (omega arith)

below_sixteen : (P : ℕ → Type 0) → P 0 → P 1 → P 2 → P 3 → P 4 → P 5 → P 6 → P 7 → P 8 → P 9 → P 10 → P 11 → P 12
    → P 13 → P 14 → P 15 → (k : ℕ) → k < 16 → P k
below_sixteen P p0 p1 p2 p3 p4 p5 p6 p7 p8 p9 p10 p11 p12 p13 p14 p15 k h = elim (cases_lt k 8) [
  | inl low ↦ below_eight P p0 p1 p2 p3 p4 p5 p6 p7 k low
  | inr high ↦
      let at : 8 + (k - 8) ≡ k = omega arith in
      subst P at (below_eight (λ i. P (8 + i)) p8 p9 p10 p11 p12 p13 p14 p15 (k - 8) (omega arith))
]

word_across-bytes : (x y : ℕ) → x / 65536 % 256 * 16777216 + x / 256 % 256 * 65536 + x % 256 * 256 + y / 16777216 % 256
    ≡ word_across x y
word_across-bytes x y = omega arith

first_word-bytes : (i j mark y : ℕ) → mark ≡ i * 256 + j → i < 2 ^ 16 → j < 256
    → i / 256 % 256 * 16777216 + i % 256 * 65536 + j % 256 * 256 + y / 16777216 % 256 ≡ word_across mark y
first_word-bytes i j mark y of_mark small place = omega arith

-- the words of a step's block: those of the leaf, and the others from the mark and the string's words
pub step_block-words : (id leaf hash : List ℕ) (q i j mark : ℕ) → length id ≡ 16 → IsLeaf id q leaf
    → mark ≡ i * 256 + j → i < 2 ^ 16 → j < 256
    → HasWords (step_block id q i j (digest_bytes hash 8)) (slice_index leaf 0 ∷ slice_index leaf 1 ∷ slice_index leaf 2
    ∷ slice_index leaf 3 ∷ slice_index leaf 4 ∷ word_across mark (slice_index hash 0)
    ∷ word_across (slice_index hash 0) (slice_index hash 1) ∷ word_across (slice_index hash 1) (slice_index hash 2)
    ∷ word_across (slice_index hash 2) (slice_index hash 3) ∷ word_across (slice_index hash 3) (slice_index hash 4)
    ∷ word_across (slice_index hash 4) (slice_index hash 5) ∷ word_across (slice_index hash 5) (slice_index hash 6)
    ∷ word_across (slice_index hash 6) (slice_index hash 7) ∷ word_across (slice_index hash 7) 0x80000000 ∷ 0 ∷ 440
    ∷ [])
unfolding tail digest_bytes u8str u16str u32str
step_block-words id leaf hash q i j mark of_id of_leaf of_mark small place =
    let string = digest_bytes hash 8 in
    let block = step_block id q i j string in
    let rest = tail q i j string in
    let begins = step_block-begins id q i j string of_id in
    let w : ℕ → ℕ = slice_index hash in
    let same : (n : ℕ) → 16 ≤ n → word_at block n ≡ from_be_bytes w32 (slice_index rest (n - 16)
    ∷ slice_index rest (n + 1 - 16) ∷ slice_index rest (n + 2 - 16) ∷ slice_index rest (n + 3 - 16) ∷ []) =
    λ n behind. ap (λ (b : List ℕ). word_at b n) (step_block-tail id q i j string)
    ∙ word_at-tail id rest n of_id behind in (
      refl,
      below_sixteen _ (of_leaf block begins 0 (omega arith)) (of_leaf block begins 1 (omega arith))
          (of_leaf block begins 2 (omega arith)) (of_leaf block begins 3 (omega arith))
          (of_leaf block begins 4 (omega arith))
          (sym (same 20 (omega arith) ∙ first_word-bytes i j mark (w 0) of_mark small place))
          (sym (same 24 (omega arith) ∙ word_across-bytes (w 0) (w 1)))
          (sym (same 28 (omega arith) ∙ word_across-bytes (w 1) (w 2)))
          (sym (same 32 (omega arith) ∙ word_across-bytes (w 2) (w 3)))
          (sym (same 36 (omega arith) ∙ word_across-bytes (w 3) (w 4)))
          (sym (same 40 (omega arith) ∙ word_across-bytes (w 4) (w 5)))
          (sym (same 44 (omega arith) ∙ word_across-bytes (w 5) (w 6)))
          (sym (same 48 (omega arith) ∙ word_across-bytes (w 6) (w 7)))
          (sym (same 52 (omega arith) ∙ word_across-bytes (w 7) 0x80000000))
          (sym (same 56 (omega arith))) (sym (same 60 (omega arith))),
    )

pub length-digest_bytes : (hash : List ℕ) → length (digest_bytes hash 8) ≡ 32
unfolding digest_bytes
length-digest_bytes hash = refl

small_four : (a b c d : ℕ) → a < 256 → b < 256 → c < 256 → d < 256 → (i : ℕ) → get_or (a ∷ b ∷ c ∷ d ∷ []) i 0 < 256
small_four a b c d a' b' c' d' zero = a'
small_four a b c d a' b' c' d' (suc zero) = b'
small_four a b c d a' b' c' d' (suc (suc zero)) = c'
small_four a b c d a' b' c' d' (suc (suc (suc zero))) = d'
small_four a b c d a' b' c' d' (suc (suc (suc (suc i)))) = omega arith

-- a string is the digest of its words
pub digest_bytes-words : (hash string : List ℕ) (n : ℕ)
    → ((k : ℕ) → k < n → slice_index hash k ≡ word_at string (4 * k)) → 4 * n ≤ length string
    → ((k : ℕ) → slice_index string k < 256) → digest_bytes hash n ≡ take (4 * n) string
unfolding digest_bytes
digest_bytes-words hash string zero words within small = refl
digest_bytes-words hash string (suc n) words within small =
    let at = 4 * n in
    let bytes = slice_index string at ∷ slice_index string (at + 1) ∷ slice_index string (at + 2)
    ∷ slice_index string (at + 3) ∷ [] in
    let last : to_be_bytes w32 (slice_index hash n) ≡ bytes =
    be_bytes_4 bytes _ refl (small_four _ _ _ _ (small at) (small (at + 1)) (small (at + 2)) (small (at + 3)))
    (words n (omega arith)) in
    let before = digest_bytes-words hash string n (λ k below. words k (omega arith)) (omega arith) small in
    let front = take at string in
    let byte : ℕ → List ℕ = λ k. slice_index string k ∷ [] in
    let third : slice_index string (at + 1 + 1) ≡ slice_index string (at + 2) = ap (slice_index string) (omega arith) in
    let fourth : slice_index string (at + 1 + 1 + 1) ≡ slice_index string (at + 3) =
    ap (slice_index string) (omega arith) in
    let more : take (at + 1 + 1 + 1 + 1) string ≡ front ++ bytes = rw (
      take_more string (at + 1 + 1 + 1) 0 (omega arith),
      take_more string (at + 1 + 1) 0 (omega arith),
      take_more string (at + 1) 0 (omega arith),
      take_more string at 0 (omega arith),
    ) (append_assoc (front ++ byte at ++ byte (at + 1)) (byte (at + 1 + 1)) (byte (at + 1 + 1 + 1))
    ∙ append_assoc (front ++ byte at) (byte (at + 1)) (byte (at + 1 + 1) ++ byte (at + 1 + 1 + 1))
    ∙ append_assoc front (byte at) (byte (at + 1) ++ (byte (at + 1 + 1) ++ byte (at + 1 + 1 + 1)))
    ∙ (λ i. front ++ (slice_index string at ∷ slice_index string (at + 1) ∷ third i ∷ fourth i ∷ []))) in
    let whole : 4 * suc n ≡ at + 1 + 1 + 1 + 1 = omega arith in
    rw (last, before, whole, more) refl
