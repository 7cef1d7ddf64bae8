use Rattle.line_forms.proofs.PrintLaws.{front_more, front_put, pieces-more}
use Rattle.line_forms.proofs.pieces.push_pieces.Goals as goal

pub loop-piece-preserved : goal.loop-piece-preserved
loop-piece-preserved c =
    pieces-more _ _ _ _ _ _ _ c.loop-piece-test.true c.piece-item.is c.loop-piece.invariant
    c.in_ok-push_piece.ensures.ok

pub returns-in_err-push_piece-clause-front : goal.returns-in_err-push_piece-clause-front
returns-in_err-push_piece-clause-front c =
    front_more _ _ _ (front_put _ _ _ c.loop-piece.invariant) c.push_piece.ensures.front
