use Rattle.std.proofs.Common.{◌≡◌, ◌++◌, take}
use Rattle.world_maker.specs.Generator.{text_of_lines}
use Rattle.world_maker.proofs.generator.push_lines.Given as goal

abbrev pub invariant-loop-line : goal.invariant-loop-line
invariant-loop-line l = l.out.items ≡ l.fn.out.items ++ text_of_lines (take l.line-index l.lines)
