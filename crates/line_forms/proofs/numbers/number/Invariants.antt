use Rattle.line_forms.proofs.Basics.{◌≡◌, ◌^◌, ◌<◌, take, digits_value}
use Rattle.line_forms.proofs.numbers.number.Given as goal

-- the value of the digits so far
abbrev pub invariant-loop-digit : goal.invariant-loop-digit
invariant-loop-digit l = record {
  small : l.value < 2 ^ 64;
  read : l.value ≡ digits_value 10 (take l.digit-index l.word);
}
