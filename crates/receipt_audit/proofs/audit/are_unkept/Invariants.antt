use Rattle.plasma_tx.specs.Shown.{tests_by}
use Rattle.receipt_audit.proofs.CheckBreaches.{Cleared}
use Rattle.receipt_audit.proofs.audit.are_unkept.Given as goal

abbrev pub invariant-loop-opening : goal.invariant-loop-opening
invariant-loop-opening g l =
    Cleared (tests_by (g.H.Hash32.digest_of l.h)) (g.H.Hash32.digest_of l.h) l.log.log l.promise l.bundle.openings
    l.opening-items l.opening-index l.passed
