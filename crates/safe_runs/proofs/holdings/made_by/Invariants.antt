use Rattle.std.proofs.Common.{◌≡◌, filter, take, reverse}
use Rattle.safe_runs.specs.Inside.{makes_block}
use Rattle.safe_runs.proofs.holdings.made_by.Given as goal

abbrev pub invariant-loop-call : goal.invariant-loop-call
invariant-loop-call l = l.made.log ≡ filter makes_block (reverse (take l.call-index l.events))
