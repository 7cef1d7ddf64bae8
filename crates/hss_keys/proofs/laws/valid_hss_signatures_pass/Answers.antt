use Rattle.hss_keys.proofs.Validity.{valid_hss_signatures_pass}
use Rattle.hss_keys.proofs.laws.valid_hss_signatures_pass.Goals as goal

pub returns : goal.returns
returns c = valid_hss_signatures_pass
