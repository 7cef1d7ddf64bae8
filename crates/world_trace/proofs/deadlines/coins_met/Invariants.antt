use Rattle.world_trace.proofs.Ticks.{AreMetBut}
use Rattle.world_trace.proofs.deadlines.coins_met.Given as goal

abbrev pub invariant-loop-coin : goal.invariant-loop-coin
invariant-loop-coin l = AreMetBut l.log.log l.time l.coin-iterator l.met.items
