use Rattle.std.proofs.Common.{refl}
use Rattle.lms_sign.specs.OneTime.{digit}
use Rattle.lms_sign.proofs.Sizes.{digit-le, digit-within}
use Rattle.lms_sign.proofs.one_time.digit.Goals as goal

pub coefficient-requires-clause-within : goal.coefficient-requires-clause-within
coefficient-requires-clause-within c =
    let within = digit-within c.args.types.now c.args.i c.requires.in_chains in
    rw (c.width.ensures.value, c.told-with_sum) within

pub returns-clause-value : goal.returns-clause-value
unfolding digit
returns-clause-value c =
    rw (c.coefficient.ensures.value, c.width.ensures.value, c.requires.of_hash) refl

pub returns-clause-bound : goal.returns-clause-bound
returns-clause-bound c =
    let value = returns-clause-value c in
    rw value (digit-le c.args.types.now c.args.hash.now c.args.i)
