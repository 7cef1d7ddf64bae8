use Rattle.crash_disk.proofs.Words.{◌≡◌, map, count_by, range_with_len, is_touched, mix_byte}
use Rattle.crash_disk.proofs.mix.mix.Given as goal

abbrev pub invariant-loop-place : goal.invariant-loop-place
invariant-loop-place l = record {
  made : l.image.items ≡ map (mix_byte l.bytes l.ranges l.pattern) (range_with_len 0 l.place);
  turns : l.turn ≡ count_by (is_touched l.bytes l.ranges) (range_with_len 0 l.place);
}
