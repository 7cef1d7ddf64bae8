use Rattle.receipt_audit.proofs.Convictions.{kept_promises_are_not_convicted as law}
use Rattle.receipt_audit.proofs.laws.kept_promises_are_not_convicted.Goals as goal

pub returns : goal.returns
returns c = law
