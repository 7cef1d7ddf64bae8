use Rattle.std.proofs.Common.{◌≡◌, ℕ, ◌+◌, ◌*◌, ◌<◌, length, slice_index}
use Rattle.lms_sign.proofs.one_time.eight_elements.Given as goal

abbrev pub invariant-marks : goal.invariant-marks
invariant-marks l = (length l.marks ≡ 8) × ((n : ℕ) → n < l.k → slice_index l.marks n ≡ (l.first + n) * 256 + 0xff)
