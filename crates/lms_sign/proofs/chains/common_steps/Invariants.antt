use Rattle.std.proofs.Common.{ℕ, ◌+◌, ◌^◌, ◌<◌, ◌≤◌, slice_index}
use Rattle.lms_sign.specs.Chains.{left, span_at}
use Rattle.lms_sign.proofs.chains.common_steps.Given as goal

abbrev pub invariant-lanes : goal.invariant-lanes
invariant-lanes l = (0 < l.count)
    × ((n : ℕ) → n < l.k → (l.count ≤ left (span_at l.spans (slice_index l.numbers n)))
    × ((span_at l.spans (slice_index l.numbers n)).from + l.count < 2 ^ 8))
