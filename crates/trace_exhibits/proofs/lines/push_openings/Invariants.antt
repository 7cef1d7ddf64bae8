use Rattle.std.proofs.Common.{◌≡◌, ◌++◌, map, take}
use Rattle.trace_exhibits.specs.Told.{opened}
use Rattle.trace_exhibits.proofs.lines.push_openings.Given as goal

abbrev pub invariant-loop-opening : goal.invariant-loop-opening
invariant-loop-opening l =
    l.shown.items ≡ l.fn.shown.items ++ map (opened l.coin) (take l.opening-index l.openings)
