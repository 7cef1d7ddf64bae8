use Rattle.merkle_pages.proofs.Words.{◌≡◌, ◌*◌, ◌<◌, ◌≤◌, ◌^◌, ℕ, [], length, slice_index_or, bit_xor, unwrap_or, node_at}
use Rattle.merkle_pages.proofs.pages.siblings.Given as goal

abbrev pub invariant-loop-number : goal.invariant-loop-number
invariant-loop-number l = record {
  long : length l.siblings ≡ 64;
  taken : (level : ℕ) → level < 15 * l.number → level < 64 → slice_index_or l.siblings level []
      ≡ unwrap_or (node_at level (bit_xor l.coin (2 ^ level)) l.pages) (slice_index_or l.defaults level []);
  waiting : (level : ℕ) → 15 * l.number ≤ level
      → slice_index_or l.siblings level [] ≡ slice_index_or l.defaults level [];
}
