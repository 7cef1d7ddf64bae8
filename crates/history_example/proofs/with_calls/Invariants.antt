use Rattle.std.proofs.Common.{◌≡◌, Some, take}
use Rattle.history_example.specs.Logs.{and_calls}
use Rattle.history_example.proofs.with_calls.Given as goal

-- the calls of the lines so far
abbrev pub invariant-loop-call : goal.invariant-loop-call
invariant-loop-call l = and_calls (Some l.fn.log) (take l.call-index l.calls) ≡ Some l.log
