use Rattle.merkle_pages.proofs.Words.{◌<◌, ℕ, IsSome, node_at, ReadsSame}
use Rattle.merkle_pages.proofs.way.make_rooms.Given as goal

abbrev pub invariant-loop-level : goal.invariant-loop-level
invariant-loop-level l = record {
  same : ReadsSame l.defaults l.fn.pages l.pages;
  room : (level : ℕ) → level < l.level → IsSome (node_at level l.coin l.pages);
}
