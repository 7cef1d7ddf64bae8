use Rattle.std.proofs.Common.{◌≡◌, ℕ, ◌+◌, ◌*◌, ◌<◌, List, [], length, slice_index, slice_index_or}
use Rattle.lms_sign.specs.Chains.{IsTaken, span_at}
use Rattle.lms_sign.specs.Lanes.{IsBegun}
use Rattle.lms_sign.proofs.chains.advance.Given as goal

abbrev pub invariant-starts : goal.invariant-starts
invariant-starts l = record {
  marks : length l.marks ≡ 8;
  starts : length l.starts ≡ 8;
  mark : (n : ℕ) → n < l.k → slice_index l.marks n
      ≡ slice_index l.numbers n * 256 + (span_at l.spans (slice_index l.numbers n)).from;
  start : (n : ℕ) → n < l.k
      → slice_index_or l.starts n [] ≡ slice_index_or l.strings (slice_index l.numbers n) [];
}

abbrev pub invariant-ends : goal.invariant-ends
invariant-ends l = record {
  spans : length l.spans ≡ length l.initial.spans;
  strings : length l.strings ≡ length l.initial.strings;
  taken : (id : List ℕ) (q n : ℕ) → length id ≡ 16 → IsBegun id q l.begun → n < length l.initial.spans
      → IsTaken id q n l.count (span_at l.initial.spans n) (slice_index_or l.initial.strings n [])
      (span_at l.spans n) (slice_index_or l.strings n []);
  first : 0 < l.k → (span_at l.spans (slice_index l.numbers 0)).from
      ≡ (span_at l.initial.spans (slice_index l.numbers 0)).from + l.count;
}
