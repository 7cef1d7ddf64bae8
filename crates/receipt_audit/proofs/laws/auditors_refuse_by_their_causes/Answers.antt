use Rattle.receipt_audit.proofs.Refusals.{audits_have_their_causes as law}
use Rattle.receipt_audit.proofs.laws.auditors_refuse_by_their_causes.Goals as goal

pub returns : goal.returns
returns c = law
