use Rattle.coin_safety.proofs.Words.{sym, ap, ◌∙◌, is_challenged}
use Rattle.coin_safety.proofs.Ends.{challenged-first, unchallenged-first}
use Rattle.coin_safety.proofs.windows.first_exit_end.Goals as goal

pub returns-then-is_challenged : goal.returns-then-is_challenged
returns-then-is_challenged c =
    challenged-first c.args.first c.args.at c.args.exit.now c.if-exit-at.false
    (ap (is_challenged c.args.at) (sym c.as_slice-challenges.ensures) ∙ sym c.is_challenged.ensures
    ∙ c.if-is_challenged.true)

pub returns : goal.returns
returns c =
    unchallenged-first c.args.first c.args.at c.args.exit.now c.later.result c.lesser.result c.if-exit-at.false
    (ap (is_challenged c.args.at) (sym c.as_slice-challenges.ensures) ∙ sym c.is_challenged.ensures
    ∙ c.if-is_challenged.false) c.later.ensures c.lesser.ensures
