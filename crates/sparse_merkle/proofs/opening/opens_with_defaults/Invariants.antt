use Rattle.sparse_merkle.proofs.Words.{◌≡◌, digest_at_level}
use Rattle.sparse_merkle.proofs.opening.opens_with_defaults.Given as goal

abbrev pub invariant-loop-level : goal.invariant-loop-level
invariant-loop-level g l =
    l.digest ≡ digest_at_level (g.H.Hash32.digest_of l.h) l.coin l.leaf l.path l.level
