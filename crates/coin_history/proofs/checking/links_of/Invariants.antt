use Rattle.coin_history.proofs.Words.{tests_by, tagged}
use Rattle.coin_history.proofs.CheckLinks.{Walked}
use Rattle.coin_history.proofs.checking.links_of.Given as goal

abbrev pub invariant-loop-opening : goal.invariant-loop-opening
invariant-loop-opening g l =
    Walked (tests_by (g.H.Hash32.digest_of l.h)) (tagged l.tag) l.log.log l.made l.bundle l.opening-items
    l.opening-index l.passed l.spends.items
