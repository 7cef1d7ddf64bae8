use Rattle.line_forms.proofs.Basics.{◌≡◌, ◌+◌, ◌^◌, ◌<◌, ◌≤◌, ◌++◌, length, drop, decimal}
use Rattle.line_forms.proofs.numbers.push_number.Given as goal

-- the last digits are written; those of the rest find room before them
abbrev pub invariant-loop-rest : goal.invariant-loop-rest
invariant-loop-rest l = record {
  len : length l.digits ≡ 20;
  last : l.start ≤ 19;
  room : l.rest < 10 ^ (l.start + 1);
  small : l.rest < 2 ^ 64;
  text : decimal l.value ≡ decimal l.rest ++ drop (l.start + 1) l.digits;
}

abbrev pub decreases-loop-rest : goal.decreases-loop-rest
decreases-loop-rest l = l.rest
