use Rattle.std.proofs.Common.{◌≡◌, ℕ, ◌+◌, ◌*◌, ◌^◌, ◌<◌, ◌≤◌, List, length, slice_index}
use Rattle.sha2.specs.Sha256.{digest_bytes}
use Rattle.lms_sign.specs.OneTime.{chain_step}
use Rattle.lms_sign.specs.Lanes.{IsBegun, lane_hash}
use Rattle.lms_sign.proofs.lanes.next_hashes.Given as goal

abbrev pub invariant-lanes : goal.invariant-lanes
invariant-lanes l = record {
  taken : (n : ℕ) → n < l.k → (id : List ℕ) (q i j : ℕ) → length id ≡ 16 → IsBegun id q l.begun
      → slice_index l.marks n + l.step ≡ i * 256 + j → i < 2 ^ 16 → j < 256
      → digest_bytes (lane_hash l.rows n) 8 ≡ chain_step id q i j (digest_bytes (lane_hash l.initial.rows n) 8);
  kept : (n : ℕ) → l.k ≤ n → lane_hash l.rows n ≡ lane_hash l.initial.rows n;
}
