use Rattle.std.proofs.Common.{◌≡◌, map, take, reverse}
use Rattle.std.specs.List.{flat_map}
use Rattle.coin_verdicts.specs.Wallets.{named_of, verdicts_for}
use Rattle.coin_verdicts.proofs.run.verdicts_by_facts.Given as goal

abbrev pub invariant-loop-wallet : goal.invariant-loop-wallet
invariant-loop-wallet l =
    l.found.items ≡ flat_map (verdicts_for (reverse l.facts)) (map named_of (take l.wallet-index l.wallets))
