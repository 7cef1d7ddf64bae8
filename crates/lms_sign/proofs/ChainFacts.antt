-- What is left of a chain after some of its steps.
use Rattle.std.proofs.Common.{◌≡◌, ℕ, ◌+◌, ◌-◌, List, inl, inr, sym, ap, ◌∙◌, arith, refl}
use Rattle.lms_sign.specs.declared.chains.Span.{Span}
use Rattle.lms_sign.specs.OneTime.{chain_value}
use Rattle.lms_sign.specs.Chains.{IsTaken, left}
use Rattle.lms_sign.proofs.Lists.{chain_value-add}

-- steps that are taken lead to the same end
pub taken-end : (id : List ℕ) (q n count : ℕ) (before after : Span) (start end : List ℕ)
    → IsTaken id q n count before start after end
    → chain_value id q n after.from (left after) end ≡ chain_value id q n before.from (left before) start
taken-end id q n count before after start end taken = elim taken.1 [
  | inl kept ↦ rw (taken.0, kept.0, kept.1) refl
  | inr further ↦
      let rest = before.to - (before.from + count) in
      let sum : count + rest ≡ before.to - before.from = omega (arith, further.1) in
      rw (taken.0, further.0, further.2) (sym (chain_value-add id q n before.from count rest start)
      ∙ ap (λ (m : ℕ). chain_value id q n before.from m start) sum)
]

-- a chain that was at its end is there
pub taken-done : (id : List ℕ) (q n count : ℕ) (before after : Span) (start end : List ℕ)
    → IsTaken id q n count before start after end → left before ≡ 0 → left after ≡ 0
taken-done id q n count before after start end taken done = elim taken.1 [
  | inl kept ↦ omega (arith, taken.0, kept.0, done)
  | inr further ↦ omega (arith, taken.0, further.0, done)
]
