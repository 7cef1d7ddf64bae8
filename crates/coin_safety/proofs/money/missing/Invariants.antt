use Rattle.coin_safety.proofs.Words.{◌≡◌, take, sum_by, takes}
use Rattle.coin_safety.proofs.money.missing.Given as goal

abbrev pub invariant-loop-call : goal.invariant-loop-call
invariant-loop-call l = l.needed ≡ sum_by takes (take l.call-index l.calls)
