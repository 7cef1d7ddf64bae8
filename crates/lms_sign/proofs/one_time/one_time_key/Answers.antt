use Rattle.lms_sign.proofs.Lists.{concatenation-more, concatenation-none}
use Rattle.lms_sign.proofs.one_time.one_time_key.Goals as goal

pub ends-init : goal.ends-init
ends-init c = rw concatenation-none c.hasher_for-hasher.ensures

pub ends-preserved : goal.ends-preserved
ends-preserved c = rw concatenation-more (c.update.ensures _ c.ends.invariant)
