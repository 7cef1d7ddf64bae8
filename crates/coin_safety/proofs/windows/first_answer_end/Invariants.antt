use Rattle.coin_safety.proofs.Words.{◌≡◌, ◌++◌, take, option_to_list, least, answer_ends}
use Rattle.coin_safety.proofs.windows.first_answer_end.Given as goal

abbrev pub invariant-loop-challenge : goal.invariant-loop-challenge
invariant-loop-challenge l =
    l.first ≡ least (option_to_list l.fn.first ++ answer_ends (take l.challenge-index l.challenges))
