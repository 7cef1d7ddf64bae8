use Rattle.std.proofs.Common.{◌≡◌, take}
use Rattle.coin_history.proofs.bundle.Openings.copy.Given as goal

abbrev pub invariant-loop-opening : goal.invariant-loop-opening
invariant-loop-opening l = l.items.items ≡ take l.opening-index l.fn.self
