use Rattle.std.proofs.Common.{◌≡◌, ℕ, ◌<◌, ◌≤◌, [], get_or}
use Rattle.lms_sign.specs.Tree.{tree_node}
use Rattle.lms_sign.proofs.secret_key.set_leaves.Given as goal

abbrev pub invariant-loop-r : goal.invariant-loop-r
invariant-loop-r l = (n : ℕ) → l.leaves ≤ n → n < l.r → get_or l.nodes n [] ≡ tree_node l.secret n
