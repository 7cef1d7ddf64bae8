use Rattle.std.proofs.Common.{◌<◌, ◌≤◌}
use Rattle.lms_sign.proofs.chains.least.Given as goal

abbrev pub invariant-lanes : goal.invariant-lanes
invariant-lanes l = (1 ≤ l.least) × (l.least < 8)
