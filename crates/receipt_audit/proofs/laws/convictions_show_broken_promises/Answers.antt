use Rattle.receipt_audit.proofs.Convictions.{convictions_show_broken_promises as law}
use Rattle.receipt_audit.proofs.laws.convictions_show_broken_promises.Goals as goal

pub returns : goal.returns
returns c = law
