use Rattle.std.proofs.Common.{take, reverse}
use Rattle.coin_verdicts.specs.Readings.{Keeps}
use Rattle.coin_verdicts.proofs.run.read_all.Given as goal

abbrev pub invariant-loop-i : goal.invariant-loop-i
invariant-loop-i l = Keeps l.count (reverse (take l.i l.facts)) l.reading
