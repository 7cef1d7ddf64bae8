use Rattle.operator_core.proofs.Words.{◌≡◌, ℕ, None, get_or, sym, ap, ◌∙◌, inl, inr, arith, cases_lt, get_or_default}
use Rattle.operator_core.proofs.ends.is_among.Goals as goal

pub way-init : goal.way-init
way-init c = λ m lt. absurd (omega (arith, lt))

pub way-preserved : goal.way-preserved
way-preserved c = λ m lt. elim (cases_lt m c.way.i) [
  | inl before ↦ c.way.invariant m before
  | inr past ↦
      (let e : m ≡ c.way.i = omega (arith, lt, past) in
      λ is. c.is_root.ensures c.if-is_root.false
      (get_or_default c.args.roots.now c.way.i _ None c.way-test.true
      ∙ ap (λ (k : ℕ). get_or c.args.roots.now k None) (sym e) ∙ is))
]

pub returns : goal.returns
returns c = λ no m lt. c.way.invariant m (omega (arith, lt))
