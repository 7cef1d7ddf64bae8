use Rattle.std.proofs.Common.{◌≡◌, ◌<◌, ◌+◌, ℕ, [], length, slice_index_or}
use Rattle.sparse_merkle.specs.Opening.{digest_at_level}
use Rattle.trace_exhibits.proofs.way.digests_up.Given as goal

abbrev pub invariant-loop-level : goal.invariant-loop-level
invariant-loop-level g l = record {
  long : length l.digests ≡ 65;
  right : (level : ℕ) → level < l.level + 1
      → slice_index_or l.digests level [] ≡ digest_at_level (g.H.Hash32.digest_of l.h) l.coin l.leaf l.path level;
}
