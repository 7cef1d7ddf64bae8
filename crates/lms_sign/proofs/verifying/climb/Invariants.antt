use Rattle.std.proofs.Common.{◌≡◌, ◌-◌, ◌*◌, ◌≤◌, length}
use Rattle.lms_sign.specs.Valid.{ancestor_node}
use Rattle.lms_sign.proofs.verifying.climb.Given as goal

abbrev pub invariant-loop-done : goal.invariant-loop-done
invariant-loop-done l =
    (32 * (l.levels - l._done) ≤ length l.rest)
    × (ancestor_node l.id (l.levels - l._done) l.r l.rest l.node ≡ ancestor_node l.id l.levels l.initial.r l.path
    l.fn.start)
