use Rattle.watch_duty.proofs.Words.{◌≡◌, drop, next_link}
use Rattle.watch_duty.proofs.watch.next_link.Given as goal

abbrev pub invariant-loop-link : goal.invariant-loop-link
invariant-loop-link l =
    next_link l.block l.last (drop l.link-index l.spends) ≡ next_link l.block l.fn.deposit l.spends
