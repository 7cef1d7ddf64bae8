use Rattle.std.proofs.Common.{◌≡◌, map, take}
use Rattle.safe_runs.specs.Cases.{rising_with}
use Rattle.safe_runs.proofs.holdings.put_accepted.Given as goal

abbrev pub invariant-loop-kept : goal.invariant-loop-kept
invariant-loop-kept l =
    l.set.keys ≡ rising_with l.fn.set.keys (map (λ kept. kept.coin) (take l.kept-index l.accepted))
