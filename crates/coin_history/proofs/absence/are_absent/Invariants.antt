use Rattle.plasma_tx.specs.Shown.{tests_by}
use Rattle.coin_history.proofs.CheckAbsences.{Cleared}
use Rattle.coin_history.proofs.absence.are_absent.Given as goal

abbrev pub invariant-loop-opening : goal.invariant-loop-opening
invariant-loop-opening g l =
    Cleared (tests_by (g.H.Hash32.digest_of l.h)) l.log.log l.bundle.coin l.span.low l.span.high l.bundle.openings
    l.opening-items l.opening-index l.passed
