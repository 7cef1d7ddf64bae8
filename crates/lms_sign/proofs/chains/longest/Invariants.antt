use Rattle.std.proofs.Common.{◌≡◌, ℕ, ◌<◌, length, slice_index}
use Rattle.lms_sign.specs.Chains.{left, span_at}
use Rattle.lms_sign.proofs.chains.longest.Given as goal

abbrev pub invariant-others : goal.invariant-others
invariant-others l = record {
  first : slice_index l.numbers 0 ≡ l.first;
  long : length l.numbers ≡ 8;
  lefts : length l.lefts ≡ 8;
  each : (k : ℕ) → k < 8 → (slice_index l.numbers k < length l.spans)
      × (0 < left (span_at l.spans (slice_index l.numbers k)));
}
