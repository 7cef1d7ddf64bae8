use Rattle.watch_duty.proofs.Words.{◌≡◌, ◌++◌, take, flat_map, answer, log_of, links_of}
use Rattle.watch_duty.proofs.watch.Watch.try_answers.Given as goal

abbrev pub invariant-loop-challenge : goal.invariant-loop-challenge
invariant-loop-challenge l =
    l.calls.items ≡ l.initial.calls.items
    ++ flat_map (answer (log_of l.self) l.self.account (links_of l.self) l.exit)
    (take l.challenge-index l.challenge-items)
