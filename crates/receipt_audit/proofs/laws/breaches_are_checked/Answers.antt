use Rattle.receipt_audit.proofs.Breaches.{breaches_are_found, breaches_pass}
use Rattle.receipt_audit.proofs.laws.breaches_are_checked.Goals as goal

pub returns : goal.returns
returns c = record { found = breaches_are_found; pass = breaches_pass }
