use Rattle.watch_duty.proofs.Words.{◌≡◌, take, flat_map, due_for, log_of, links_of}
use Rattle.watch_duty.proofs.watch.Watch.due.Given as goal

abbrev pub invariant-loop-exit : goal.invariant-loop-exit
invariant-loop-exit l =
    l.calls.items
    ≡ flat_map (due_for (log_of l.self) l.self.account (links_of l.self)) (take l.exit-index l.exit-items)
