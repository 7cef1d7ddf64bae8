use Rattle.std.proofs.Common.{◌≡◌, ◌++◌, ℕ}
use Rattle.std.specs.List.{flat_map}
use Rattle.std.specs.Option.{option_to_list}
use Rattle.safe_runs.specs.Cases.{wallet_case}
use Rattle.safe_runs.proofs.holdings.Holdings.cases_of.Given as goal

abbrev pub invariant-loop-coin : goal.invariant-loop-coin
invariant-loop-coin g l =
    let case = λ (coin : ℕ). option_to_list (wallet_case (g.H.Hash32.digest_of l.self.node.hash) l.self.node.records l.log.log l.hidden coin) in
    l.cases.items ++ flat_map case l.coin-iterator ≡ flat_map case l.coins.keys
