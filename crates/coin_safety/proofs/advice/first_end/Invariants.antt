use Rattle.coin_safety.proofs.Words.{◌≡◌, map, take, exits_of, least, end_of_call}
use Rattle.coin_safety.proofs.advice.first_end.Given as goal

abbrev pub invariant-loop-call : goal.invariant-loop-call
invariant-loop-call l =
    l.first ≡ least (map (end_of_call (exits_of l.log.log l.coin)) (take l.call-index l.calls))
