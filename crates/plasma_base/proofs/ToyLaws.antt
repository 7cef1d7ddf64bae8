-- Sums of groups of the toy digest.
use Rattle.std.proofs.Common.{◌≡◌, ℕ, ◌+◌, ◌*◌, ◌^◌, ◌%◌, ◌<◌, ◌≤◌, List, [], ◌∷◌, ◌++◌, length, refl, ap, sym, ◌∙◌, zero-add, add-zero, arith, length-append, lit<}
use Rattle.std.proofs.Math.Nat.{mod-add-mod, add-mod, mod-eq_of_lt, pow-le-pow_right}
use Rattle.plasma_base.specs.Toy.{group_sum}
use Rattle.plasma_base.specs.Toy.{group_sum}

-- the groups of two lists, one after the other
pub group_sum-append : (after : ℕ) (first second : List ℕ)
    → group_sum after (first ++ second) ≡ group_sum (length second + after) first + group_sum after second
unfolding group_sum
group_sum-append after [] second = omega arith
group_sum-append after (byte ∷ bytes) second =
    let place : length (bytes ++ second) + after ≡ length bytes + (length second + after) =
    omega (arith, length-append bytes second) in
    rw (place, group_sum-append after bytes second) (omega arith)

-- what a byte counts at a place of its group is at most 2 ^ 56
pub power-small : (place : ℕ) → place < 8 → 256 ^ place ≤ 2 ^ 56
power-small place in_group = pow-le-pow_right (lit< tt) {j = 7} (omega arith)

-- a byte's group counted into the sum, before those of the bytes behind it
pub group_sum-step : (modulus sum with_byte byte after : ℕ) (rest others : List ℕ) → rest ≡ byte ∷ others
    → with_byte ≡ (sum + byte * 256 ^ ((length others % 8 + after % 8) % 8)) % modulus
    → (with_byte + group_sum after others) % modulus ≡ (sum + group_sum after rest) % modulus
unfolding group_sum
group_sum-step modulus sum with_byte byte after rest others split counted =
    rw (
      counted,
      split,
      mod-add-mod (sum + byte * 256 ^ ((length others % 8 + after % 8) % 8)) modulus (group_sum after others),
      ← add-mod (length others) after 8,
    ) (ap (λ n. n % modulus) (omega arith))

-- no byte is left
pub group_sum-empty : (modulus sum after whole : ℕ) (rest : List ℕ) → length rest ≡ 0 → sum < modulus
    → (sum + group_sum after rest) % modulus ≡ whole → sum ≡ whole
unfolding group_sum
group_sum-empty modulus sum after whole [] none small counted =
    sym (mod-eq_of_lt small) ∙ ap (λ n. n % modulus) (omega arith) ∙ counted
group_sum-empty modulus sum after whole (byte ∷ rest) none small counted = absurd (omega arith)

-- the groups of one list after another, in two steps
pub group_sum-two : (modulus front whole : ℕ) (first second : List ℕ)
    → front ≡ (0 + group_sum (length second) first) % modulus
    → whole ≡ (front + group_sum 0 second) % modulus
    → whole ≡ group_sum 0 (first ++ second) % modulus
group_sum-two modulus front whole first second begun ended =
    rw (
      ended,
      begun,
      mod-add-mod (0 + group_sum (length second) first) modulus (group_sum 0 second),
      group_sum-append 0 first second,
      zero-add,
      add-zero,
    ) refl
