use Rattle.plasma_tx.proofs.Words.{◌≡◌, ◌++◌, map, take, drop, view_with_answer_at}
use Rattle.plasma_tx.proofs.views.answer_all.Given as goal

abbrev pub invariant-loop-challenge : goal.invariant-loop-challenge
invariant-loop-challenge l = l.challenge-items ≡ map (view_with_answer_at l.block)
    (take l.challenge-index l.fn.challenges.items) ++ drop l.challenge-index l.fn.challenges.items
