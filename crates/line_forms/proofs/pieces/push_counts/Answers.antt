use Rattle.std.proofs.Common.{refl}
use Rattle.line_forms.proofs.PrintLaws.{front_more, front_put, numbers-more}
use Rattle.line_forms.proofs.pieces.push_counts.Goals as goal

pub loop-count-preserved : goal.loop-count-preserved
loop-count-preserved c =
    numbers-more _ _ _ _ _ _ _ c.loop-count-test.true refl c.loop-count.invariant
    c.in_ok-push_count.ensures.ok

pub returns-in_err-push_count-clause-front : goal.returns-in_err-push_count-clause-front
returns-in_err-push_count-clause-front c =
    front_more _ _ _ (front_put _ _ _ c.loop-count.invariant) c.push_count.ensures.front
