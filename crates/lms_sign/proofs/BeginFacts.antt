-- Blocks that begin with the same 20 bytes have the same first five rounds.
use Rattle.std.proofs.Common.{◌≡◌, ℕ, zero, suc, ◌+◌, ◌*◌, ◌<◌, ◌≤◌, List, [], ◌∷◌, take, slice_index, refl, sym, ap, ◌∙◌, arith}
use Rattle.std.proofs.lemmas.List.{get_or-take}
use Rattle.std.specs.Int.{w32, from_be_bytes}
use Rattle.sha2.specs.Sha256.{round, round_constants, rounds, schedule, word_at, initial_hash_256}
use Rattle.sha2.proofs.Schedule256.{slice_index-schedule_first}
use Rattle.lms_sign.specs.Lanes.{five_rounds}

-- a word reads the bytes in front alone
word_at-take : (block : List ℕ) (place n : ℕ) → place + 4 ≤ n → word_at (take n block) place ≡ word_at block place
word_at-take block place n within =
    let first = get_or-take n block place 0 (omega arith) in
    let second = get_or-take n block (place + 1) 0 (omega arith) in
    let third = get_or-take n block (place + 2) 0 (omega arith) in
    let fourth = get_or-take n block (place + 3) 0 (omega arith) in
    (λ i. from_be_bytes w32 (first i ∷ second i ∷ third i ∷ fourth i ∷ []))

-- a word of the front
pub same_word : (one other : List ℕ) (t : ℕ) → t < 5 → take 20 one ≡ take 20 other
    → word_at one (4 * t) ≡ word_at other (4 * t)
same_word one other t within same =
    sym (word_at-take one (4 * t) 20 (omega arith)) ∙ ap (λ (b : List ℕ). word_at b (4 * t)) same
    ∙ word_at-take other (4 * t) 20 (omega arith)

same_rounds : (one other : List ℕ) (h : List ℕ) (t : ℕ) → t ≤ 5 → take 20 one ≡ take 20 other
    → rounds h (schedule one 48) t ≡ rounds h (schedule other 48) t
unfolding rounds
same_rounds one other h zero le same = refl
same_rounds one other h (suc t) le same =
    let words = same_word one other t (omega arith) same in
    let word = slice_index-schedule_first one 48 t (omega arith) ∙ words
    ∙ sym (slice_index-schedule_first other 48 t (omega arith)) in
    let before = same_rounds one other h t (omega arith) same in
    (λ i. round (before i) (slice_index round_constants t) (word i))

pub same_begun : (one other : List ℕ) → take 20 one ≡ take 20 other → five_rounds one ≡ five_rounds other
same_begun one other same = same_rounds one other initial_hash_256 5 (omega arith) same
