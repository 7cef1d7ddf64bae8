use Rattle.hss_keys.proofs.Words.{◌≡◌, ◌∙◌, ℕ, List, take, min, length, ap, sym, arith, inl, inr, cases_lt, take_all, bytes_eq, u32str}
use Rattle.hss_keys.proofs.fields.begins_with.Goals as goal

-- the first four, of which there may be fewer
front-four : (xs : List ℕ) (n : ℕ) → n ≡ min 4 (length xs) → take n xs ≡ take 4 xs
front-four xs n is = elim (cases_lt (length xs) 4) [
  | inl less ↦ take_all n xs (omega (arith, is)) ∙ sym (take_all 4 xs (omega arith))
  | inr most ↦ (let four : n ≡ 4 = omega (arith, is) in ap (λ k. take k xs) four)
]

pub returns : goal.returns
returns c =
    let front = front-four c.args.bytes.now c.min.result c.min.ensures in
    let number : c.as_slice.result.now ≡ u32str c.args.number = c.as_slice.ensures ∙ c.u32str.ensures in
    c.eq.ensures ∙ (λ i. bytes_eq (front i) (number i))
