use Rattle.std.proofs.Common.{◌++◌, ℕ, List}
use Rattle.trace_exhibits.specs.Ways.{strings_below}
use Rattle.trace_exhibits.specs.Strings.{KeepsStrings}
use Rattle.trace_exhibits.proofs.collisions.add_way.Given as goal

abbrev pub invariant-loop-level : goal.invariant-loop-level
invariant-loop-level g l =
    let dig = g.H.Hash32.digest_of l.h in
    (earlier : List (List ℕ)) → KeepsStrings dig l.met l.fn.strings earlier
    → KeepsStrings dig l.met l.strings (earlier ++ strings_below dig l.way.coin l.way.leaf.now l.way.path l.level)
