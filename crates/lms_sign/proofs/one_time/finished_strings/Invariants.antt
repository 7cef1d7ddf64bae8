use Rattle.std.proofs.Common.{◌≡◌, ℕ, ◌<◌, [], length, slice_index_or}
use Rattle.lms_sign.specs.OneTime.{digit}
use Rattle.lms_sign.specs.Valid.{string_of}
use Rattle.lms_sign.specs.Chains.{span_at}
use Rattle.lms_sign.proofs.one_time.finished_strings.Given as goal

abbrev pub invariant-given : goal.invariant-given
invariant-given l = record {
  span_count : length l.spans ≡ 67;
  string_count : length l.strings ≡ 72;
  spans : (n : ℕ) → n < l.i → span_at l.spans n ≡ record { from = digit l.types l.hash n; to = l.steps };
  strings : (n : ℕ) → n < l.i → slice_index_or l.strings n [] ≡ string_of l.signature n;
}
