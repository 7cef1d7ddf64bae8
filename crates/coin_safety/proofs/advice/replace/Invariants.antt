use Rattle.coin_safety.proofs.Words.{◌≡◌, ◌++◌, map, take, drop, instead}
use Rattle.coin_safety.proofs.advice.replace.Given as goal

abbrev pub invariant-loop-call : goal.invariant-loop-call
invariant-loop-call l = l.call-items ≡ map (instead l.log.log l.coin) (take l.call-index l.fn.calls.items)
    ++ drop l.call-index l.fn.calls.items
