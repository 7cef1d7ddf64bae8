use Rattle.std.proofs.Common.{refl, sym, ◌∙◌, arith}
use Rattle.line_forms.proofs.NumberLaws.{number_in-other, number_in-large, number_in-found, value-more}
use Rattle.line_forms.proofs.numbers.number.Goals as goal

pub returns-then-not-is_decimal : goal.returns-then-not-is_decimal
returns-then-not-is_decimal c = sym (number_in-other c.args.word.now (sym c.if-not-is_decimal.ensures))

pub returns-in_err-checked_mul : goal.returns-in_err-checked_mul
returns-in_err-checked_mul c =
    c.from_residual.ensures ∙ sym (number_in-large c.args.word.now c.loop-digit.digit-index c.loop-digit.value _
    (sym c.if-not-is_decimal.ensures) c.loop-digit-test.true c.loop-digit.invariant.read refl
    (omega (arith, c.in_err-checked_mul.ensures)))

pub returns-in_err-value : goal.returns-in_err-value
returns-in_err-value c =
    c.from_residual-in_err-value.ensures
    ∙ sym (number_in-large c.args.word.now c.loop-digit.digit-index c.loop-digit.value _
    (sym c.if-not-is_decimal.ensures) c.loop-digit-test.true c.loop-digit.invariant.read refl
    (omega (arith, c.in_err-value.ensures, c.in_ok-checked_mul.ensures, c.from.ensures)))

pub loop-digit-preserved : goal.loop-digit-preserved
loop-digit-preserved c = record {
  small = omega (arith, c.in_ok-value.ensures);
  read = value-more c.args.word.now c.loop-digit.digit-index c.loop-digit.value c.in_ok-value.value
      (sym c.if-not-is_decimal.ensures) c.loop-digit-test.true c.loop-digit.invariant.read
      (omega (arith, c.in_ok-value.ensures, c.in_ok-checked_mul.ensures, c.from.ensures));
}

pub returns : goal.returns
returns c =
    sym (number_in-found c.args.word.now c.loop-digit.digit-index c.loop-digit.value
    (sym c.if-not-is_decimal.ensures) c.loop-digit-test.false c.loop-digit.invariant.read
    c.loop-digit.invariant.small)
