use Rattle.std.proofs.Common.{◌≡◌, take}
use Rattle.safe_runs.specs.Cases.{rising_with}
use Rattle.safe_runs.proofs.holdings.put_coins.Given as goal

abbrev pub invariant-loop-coin : goal.invariant-loop-coin
invariant-loop-coin l = l.set.keys ≡ rising_with l.fn.set.keys (take l.coin-index l.coins)
