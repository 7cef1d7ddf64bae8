use Rattle.coin_safety.proofs.Words.{length, sym, ap, ◌∙◌, eqb-true, exits_of, end_of_call}
use Rattle.coin_safety.proofs.Numbers.{least-empty}
use Rattle.coin_safety.proofs.advice.advise.Goals as goal

pub returns-then-is_empty-clause-end : goal.returns-then-is_empty-clause-end
returns-then-is_empty-clause-end c =
    least-empty (end_of_call (exits_of c.args.log.now.log c.args.coin)) c.args.calls.now.items
    (ap length (sym c.as_slice.ensures.value)
    ∙ eqb-true (length c.as_slice.result.now) 0 (sym c.is_empty.ensures ∙ c.if-is_empty.true))
