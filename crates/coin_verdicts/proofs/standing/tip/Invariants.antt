use Rattle.std.proofs.Common.{◌≡◌, ◌≤◌, filter, length, take, reverse}
use Rattle.wallet_core.specs.State.{greatest}
use Rattle.coin_verdicts.specs.Standings.{was_held, tips_in}
use Rattle.coin_verdicts.proofs.Loops.{joined}
use Rattle.coin_verdicts.proofs.standing.tip.Given as goal

abbrev pub invariant-loop-left : goal.invariant-loop-left
invariant-loop-left l = record {
  within : l.left ≤ length l.notes;
  is : greatest (filter (was_held l.holder (reverse l.notes)) (tips_in l.holder.wallet (reverse l.notes)))
      ≡ joined l.best (greatest (filter (was_held l.holder (reverse l.notes))
      (tips_in l.holder.wallet (reverse (take l.left l.notes)))));
}

abbrev pub decreases-loop-left : goal.decreases-loop-left
decreases-loop-left l = l.left
