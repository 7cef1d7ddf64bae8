use Rattle.hss_keys.proofs.Validity.{valid_hss_signatures_pass}
use Rattle.hss_keys.proofs.verify.hss_verify.Goals as goal

pub returns-clause-valid : goal.returns-clause-valid
returns-clause-valid c = rw c.is_hss_valid.ensures
    (valid_hss_signatures_pass c.args.public.now c.args.message.now c.args.signature.now)
