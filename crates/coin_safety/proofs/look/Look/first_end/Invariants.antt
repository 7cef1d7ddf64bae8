use Rattle.coin_safety.proofs.Words.{◌≡◌, take, flat_map, least, ends_of}
use Rattle.coin_safety.proofs.look.Look.first_end.Given as goal

abbrev pub invariant-loop-exit : goal.invariant-loop-exit
invariant-loop-exit l = l.first ≡ least (flat_map (ends_of l.tip) (take l.exit-index l.exit-items))
