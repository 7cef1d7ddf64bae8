use Rattle.std.proofs.Common.{refl}
use Rattle.lms_sign.proofs.lanes.big_sigma1.Goals as goal

pub returns : goal.returns
returns c = rw (c.rotate_right.ensures, c.rotate_right-2.ensures, c.rotate_right-3.ensures) refl
