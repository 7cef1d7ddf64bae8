use Rattle.operator_core.proofs.Words.{◌≡◌, ◌+◌, ℕ, None, get_or, sym, ap, ◌∙◌, inl, inr, arith, cases_lt, get_or_default, root_at}
use Rattle.operator_core.proofs.ends.are_followed.Goals as goal

pub way-init : goal.way-init
way-init c = λ m lt. absurd (omega (arith, lt))

pub way-preserved : goal.way-preserved
way-preserved c = λ m lt. elim (cases_lt m c.way.i) [
  | inl before ↦ c.way.invariant m before
  | inr past ↦
      (let e : m ≡ c.way.i = omega (arith, lt, past) in
      ap (λ (k : ℕ). get_or c.args.roots.now k None) e
      ∙ get_or_default c.args.roots.now c.way.i None _ c.way-test.true
      ∙ sym (c.are_apart.ensures c.if-are_apart.false) ∙ c.root_at.ensures
      ∙ ap (λ (k : ℕ). root_at c.args.log.now.log (k + 1)) (sym e))
]

pub returns : goal.returns
returns c = λ yes. record { roots_are = λ m lt. c.way.invariant m (omega (arith, lt)) }
