use Rattle.lms_sign.proofs.Laws.{signatures_are_valid}
use Rattle.lms_sign.proofs.signatures_are_valid.Goals as goal

pub returns : goal.returns
returns c = signatures_are_valid
