use Rattle.sparse_merkle.specs.MaskedPath.{masked_path_in}
use Rattle.sparse_merkle.proofs.ProofLaws.{Filled}
use Rattle.trace_exhibits.proofs.way.path_in.Given as goal

abbrev pub invariant-loop-level : goal.invariant-loop-level
invariant-loop-level g l = Filled (g.H.Hash32.digest_of l.h) (masked_path_in l.text) l.path l.next l.level
