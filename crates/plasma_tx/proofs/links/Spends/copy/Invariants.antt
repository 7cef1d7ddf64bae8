use Rattle.std.proofs.Common.{◌≡◌, take}
use Rattle.plasma_tx.proofs.links.Spends.copy.Given as goal

abbrev pub invariant-loop-link : goal.invariant-loop-link
invariant-loop-link l = l.items.items ≡ take l.link-index l.fn.self
