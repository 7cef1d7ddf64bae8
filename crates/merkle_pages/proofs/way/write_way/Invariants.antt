use Rattle.merkle_pages.proofs.Words.{◌<◌, ℕ, IsSome, node_at, SetsWay}
use Rattle.merkle_pages.proofs.way.write_way.Given as goal

abbrev pub invariant-loop-level : goal.invariant-loop-level
invariant-loop-level l = record {
  sets : SetsWay l.coin l.level l.digests l.defaults l.fn.pages l.pages;
  room : (level : ℕ) → level < 64 → IsSome (node_at level l.coin l.pages);
}
