use Rattle.operator_core.proofs.Words.{◌≡◌, ◌<◌, ◌+◌, ℕ, get_or, None, root_at}
use Rattle.operator_core.proofs.ends.are_followed.Given as goal

abbrev pub invariant-way : goal.invariant-way
invariant-way l = (m : ℕ) → m < l.i → get_or l.roots m None ≡ root_at l.log.log (m + 1)
