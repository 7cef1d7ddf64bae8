use Rattle.coin_history.proofs.Words.{inl, inr, arith, ap, ◌∙◌, sym, cases_eq, cases_lt, is_asked}
use Rattle.coin_history.proofs.CheckFacts.{asked-low, asked-high}
use Rattle.coin_history.proofs.coverage.first_asked.Goals as goal

pub loop-n-init : goal.loop-n-init
loop-n-init c n from below =
    asked-low c.args.log.now.log c.args.span.low c.args.span.high n (omega arith)

pub loop-n-preserved : goal.loop-n-preserved
loop-n-preserved c n from below = elim (cases_eq n c.loop-n.n) [
  | inl e ↦ ap (is_asked c.args.log.now.log c.args.span.low c.args.span.high) e
      ∙ sym c.is_asked.ensures ∙ c.if-is_asked.false
  | inr apart ↦ c.loop-n.invariant n from (omega arith)
]

pub returns-then-is_asked : goal.returns-then-is_asked
returns-then-is_asked c = record {
  low = omega arith;
  high = omega arith;
  is = sym c.is_asked.ensures ∙ c.if-is_asked.true;
  first = c.loop-n.invariant;
}

pub returns : goal.returns
returns c n from below = elim (cases_lt n c.loop-n.n) [
  | inl less ↦ c.loop-n.invariant n from less
  | inr more ↦ asked-high c.args.log.now.log c.args.span.low c.args.span.high n (omega arith)
]
