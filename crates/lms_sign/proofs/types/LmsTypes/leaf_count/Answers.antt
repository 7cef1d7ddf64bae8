use Rattle.lms_sign.proofs.Sizes.{one_shl-le}
use Rattle.lms_sign.proofs.types.LmsTypes.leaf_count.Goals as goal

pub returns-clause-bound : goal.returns-clause-bound
returns-clause-bound c = one_shl-le _ c.height.ensures.bound
