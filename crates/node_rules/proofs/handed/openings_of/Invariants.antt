use Rattle.std.proofs.Common.{◌≡◌, take, map}
use Rattle.node_rules.proofs.handed.openings_of.Given as goal

abbrev pub invariant-loop-link : goal.invariant-loop-link
invariant-loop-link l = l.openings.items ≡ map (λ link. link.opening) (take l.link-index l.links)
