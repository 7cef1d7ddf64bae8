use Rattle.std.proofs.Common.{◌≡◌, ℕ, ◌<◌, [], length, slice_index_or}
use Rattle.lms_sign.specs.OneTime.{chain_value}
use Rattle.lms_sign.specs.Chains.{left, span_at}
use Rattle.lms_sign.proofs.chains.take_steps.Given as goal

abbrev pub invariant-chains : goal.invariant-chains
invariant-chains l = record {
  spans : length l.spans ≡ length l.fn.spans;
  strings : length l.strings ≡ length l.fn.strings;
  aims : (n : ℕ) → n < length l.fn.spans
      → chain_value l.id l.q n (span_at l.spans n).from (left (span_at l.spans n)) (slice_index_or l.strings n [])
      ≡ chain_value l.id l.q n (span_at l.fn.spans n).from (left (span_at l.fn.spans n))
      (slice_index_or l.fn.strings n []);
  done : (n : ℕ) → n < l.first → left (span_at l.spans n) ≡ 0;
}

abbrev pub invariant-rounds : goal.invariant-rounds
invariant-rounds l = record {
  spans : length l.spans ≡ length l.fn.spans;
  strings : length l.strings ≡ length l.fn.strings;
  aims : (n : ℕ) → n < length l.fn.spans
      → chain_value l.id l.q n (span_at l.spans n).from (left (span_at l.spans n)) (slice_index_or l.strings n [])
      ≡ chain_value l.id l.q n (span_at l.fn.spans n).from (left (span_at l.fn.spans n))
      (slice_index_or l.fn.strings n []);
  done : (n : ℕ) → n < l.first → left (span_at l.spans n) ≡ 0;
}

abbrev pub decreases-rounds : goal.decreases-rounds
decreases-rounds l = left (span_at l.spans l.first)
