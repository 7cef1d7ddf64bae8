use Rattle.hss_keys.proofs.Validity.{hss_signatures_are_valid}
use Rattle.hss_keys.proofs.laws.hss_signatures_are_valid.Goals as goal

pub returns : goal.returns
returns c = hss_signatures_are_valid
