use Rattle.merkle_pages.proofs.Words.{◌≡◌, ◌≤◌, ℕ, [], length, slice_index_or, with_leaf, subtree_digest, part_at}
use Rattle.merkle_pages.proofs.tree.SharedTree.digests_with.Given as goal

abbrev pub invariant-loop-level : goal.invariant-loop-level
invariant-loop-level g l = record {
  long : length l.digests ≡ 65;
  right : (level : ℕ) → level ≤ l.level → slice_index_or l.digests level []
      ≡ subtree_digest (g.H.Hash32.digest_of l.self.hash) level
      (part_at level l.coin (with_leaf l.self.entries l.coin l.leaf));
}
