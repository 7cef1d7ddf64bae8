use Rattle.std.proofs.Common.{◌≡◌, ◌≤◌, take, reverse}
use Rattle.coin_verdicts.specs.Wallets.{coins_in}
use Rattle.coin_verdicts.proofs.run.count_coins.Given as goal

abbrev pub invariant-loop-fact : goal.invariant-loop-fact
invariant-loop-fact l = record {
  is : l.count ≡ coins_in (reverse (take l.fact-index l.facts));
  few : l.count ≤ l.fact-index;
}
