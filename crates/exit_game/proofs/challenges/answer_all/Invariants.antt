use Rattle.exit_game.proofs.Words.{◌≡◌, ◌++◌, map, take, drop, answered_at}
use Rattle.exit_game.proofs.challenges.answer_all.Given as goal

abbrev pub invariant-loop-challenge : goal.invariant-loop-challenge
invariant-loop-challenge l = l.challenge-items ≡ map (answered_at l.block)
    (take l.challenge-index l.fn.challenges.items) ++ drop l.challenge-index l.fn.challenges.items
