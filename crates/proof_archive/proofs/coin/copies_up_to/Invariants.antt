use Rattle.proof_archive.proofs.Words.{◌≡◌, take, openings_up_to}
use Rattle.proof_archive.proofs.coin.copies_up_to.Given as goal

abbrev pub invariant-loop-opening : goal.invariant-loop-opening
invariant-loop-opening l = l.copied.items ≡ openings_up_to l.tip (take l.opening-index l.openings)
