use Rattle.std.proofs.Common.{length}
use Rattle.plasma_outside.proofs.WriteLaws.{Written}
use Rattle.plasma_outside.proofs.std_io.write_through.Given as goal

abbrev pub invariant-loop-rest : goal.invariant-loop-rest
invariant-loop-rest g l = Written (g.W.Write.contents l.fn.writer) (g.W.Write.contents l.writer) l.rest l.bytes

abbrev pub decreases-loop-rest : goal.decreases-loop-rest
decreases-loop-rest g l = length l.rest
