use Rattle.std.proofs.Common.{◌≡◌, ◌++◌, length}
use Rattle.world_maker.specs.Generator.{made_text, made_lines}
use Rattle.world_maker.proofs.generator.push_schedule.Given as goal

abbrev pub invariant-loop-done : goal.invariant-loop-done
invariant-loop-done l = record {
  text : l.out.items ≡ l.fn.out.items ++ made_text l.fn.seed l.done;
  lines : l.lines ≡ length (made_lines l.fn.seed l.done);
}
