use Rattle.std.proofs.Common.{◌-◌}
use Rattle.coin_history.proofs.BundleItems.{low_of, HaveRead}
use Rattle.coin_history.proofs.reading.items_at.Given as goal

abbrev pub invariant-loop : goal.invariant-loop
invariant-loop l =
    HaveRead l.bytes l.place l.count l.openings.items l.end (low_of l.before) (l.count - l.counter)
