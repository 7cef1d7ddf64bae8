use Rattle.std.proofs.Common.{◌≤◌, ◌<◌, ℕ, length, get_or}
use Rattle.crash_disk.proofs.mix.first_touched.Given as goal

abbrev pub invariant-loop-range : goal.invariant-loop-range
invariant-loop-range l = record {
  within : l.first ≤ length l.bytes;
  below : (k : ℕ) → k < l.range-index → l.first ≤ (get_or l.ranges k (0, 0)).0;
}
