use Rattle.std.proofs.Common.{refl}
use Rattle.lms_sign.specs.Types.{chains, height}
use Rattle.lms_sign.proofs.types_have_these_sizes.Goals as goal

pub returns-clause-of_5_4 : goal.returns-clause-of_5_4
unfolding chains height
returns-clause-of_5_4 c = (refl, refl, refl)

pub returns-clause-of_6_4 : goal.returns-clause-of_6_4
unfolding chains height
returns-clause-of_6_4 c = (refl, refl, refl)

pub returns-clause-of_5_3 : goal.returns-clause-of_5_3
unfolding chains height
returns-clause-of_5_3 c = (refl, refl, refl)

pub returns-clause-of_6_3 : goal.returns-clause-of_6_3
unfolding chains height
returns-clause-of_6_3 c = (refl, refl, refl)
