use Rattle.watch_duty.proofs.Words.{◌≡◌, take, due_calls}
use Rattle.watch_duty.proofs.due.duty.Given as goal

abbrev pub invariant-loop-guard : goal.invariant-loop-guard
invariant-loop-guard l = l.calls.items ≡ due_calls l.log.log l.account (take l.guard-index l.guards)
