use Rattle.std.proofs.Common.{◌≡◌, ℕ, ◌+◌, ◌*◌, ◌^◌, ◌<◌, ◌≤◌, List, [], length, slice_index, slice_index_or}
use Rattle.sha2.specs.Sha256.{digest_bytes}
use Rattle.lms_sign.specs.OneTime.{chain_value}
use Rattle.lms_sign.specs.Lanes.{IsBegun, lane_hash}
use Rattle.lms_sign.proofs.blocks.strings_after.Given as goal

abbrev pub invariant-load : goal.invariant-load
invariant-load l = (n : ℕ) → n < l.k → digest_bytes (lane_hash l.rows n) 8 ≡ slice_index_or l.strings n []

abbrev pub invariant-steps : goal.invariant-steps
invariant-steps l = (n : ℕ) → n < 8 → (id : List ℕ) (q i j : ℕ) → length id ≡ 16 → IsBegun id q l.begun
    → slice_index l.marks n ≡ i * 256 + j → i < 2 ^ 16 → j + l.count ≤ 2 ^ 8
    → digest_bytes (lane_hash l.rows n) 8 ≡ chain_value id q i j l.step (slice_index_or l.strings n [])

abbrev pub invariant-store : goal.invariant-store
invariant-store l = (length l.ends ≡ 8)
    × ((n : ℕ) → n < l.k → slice_index_or l.ends n [] ≡ digest_bytes (lane_hash l.rows n) 8)
