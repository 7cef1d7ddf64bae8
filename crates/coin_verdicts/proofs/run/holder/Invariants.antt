use Rattle.std.proofs.Common.{◌≡◌, None, take, reverse}
use Rattle.coin_verdicts.specs.Notes.{holder_in}
use Rattle.coin_verdicts.proofs.run.holder.Given as goal

abbrev pub invariant-loop-i : goal.invariant-loop-i
invariant-loop-i l = None ≡ holder_in (reverse (take l.i l.facts)) l.wallet
