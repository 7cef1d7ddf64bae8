use Rattle.std.proofs.Common.{◌≡◌, ℕ, ◌<◌, length, slice_index}
use Rattle.lms_sign.specs.Lanes.{lane_hash}
use Rattle.lms_sign.proofs.lanes.lane_hash.Given as goal

abbrev pub invariant-words : goal.invariant-words
invariant-words l = (length l.hash ≡ 8)
    × ((n : ℕ) → n < l.i → slice_index l.hash n ≡ slice_index (lane_hash l.rows l.k) n)
