use Rattle.std.proofs.Common.{◌<◌, ◌≤◌}
use Rattle.lms_sign.specs.Kept.{AreNodesFrom}
use Rattle.lms_sign.proofs.secret_key.set_parents.Given as goal

abbrev pub invariant-loop-r : goal.invariant-loop-r
invariant-loop-r l = (0 < l.r) × (l.r ≤ l.leaves) × AreNodesFrom l.secret l.nodes l.r

abbrev pub decreases-loop-r : goal.decreases-loop-r
decreases-loop-r l = l.r
