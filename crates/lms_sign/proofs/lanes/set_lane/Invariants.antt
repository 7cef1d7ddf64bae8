use Rattle.std.proofs.Common.{◌≡◌, ◌≢◌, ℕ, ◌<◌, length, slice_index}
use Rattle.lms_sign.specs.Lanes.{lane_hash}
use Rattle.lms_sign.proofs.lanes.set_lane.Given as goal

abbrev pub invariant-words : goal.invariant-words
invariant-words l = record {
  long : length l.rows ≡ 8;
  value : (n : ℕ) → n < l.i → slice_index (lane_hash l.rows l.k) n ≡ slice_index l.hash n;
  kept : (n : ℕ) → n ≢ l.k → lane_hash l.rows n ≡ lane_hash l.initial.rows n;
}
