use Rattle.std.proofs.Common.{◌≢◌, ◌<◌, ℕ, get_or, None, Some}
use Rattle.operator_core.proofs.ends.is_among.Given as goal

abbrev pub invariant-way : goal.invariant-way
invariant-way l = (m : ℕ) → m < l.i → get_or l.roots m None ≢ Some l.root
