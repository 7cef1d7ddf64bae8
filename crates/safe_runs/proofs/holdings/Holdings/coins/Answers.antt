use Rattle.std.proofs.Common.{rules, ◌≡◌, List, ℕ, [], ◌++◌, map, ap, ◌∙◌}
use Rattle.plasma_tx.specs.Views.{deposits_of}
use Rattle.node_rules.specs.declared.kept_coin.KeptCoin.{KeptCoin}
use Rattle.safe_runs.specs.Cases.{rising_with}
use Rattle.safe_runs.proofs.HeldCases.{account-is}
use Rattle.safe_runs.proofs.Loops.{rising-both}
use Rattle.safe_runs.proofs.holdings.Holdings.coins.Goals as goal

pub returns : goal.returns
returns g c =
    let accepted : List ℕ = map (λ kept. kept.coin) c.args.self.now.accepted.items in
    let log = c.args.log.now.log in
    let slice : c.deref.result.now ≡ c.args.self.now.accepted.items = search (rules, c.deref.ensures) in
    c.in_ok-put_coins.ensures
    ∙ ap (λ (keys : List ℕ). rising_with keys c.deposits.result.now)
    (c.in_ok-put_accepted.ensures
    ∙ ap (λ (all : List KeptCoin). rising_with c.new-coins.result.keys (map (λ kept. kept.coin) all)) slice)
    ∙ ap (λ (keys : List ℕ). rising_with (rising_with keys accepted) c.deposits.result.now) c.new-coins.ensures.empty
    ∙ ap (λ (coins : List ℕ). rising_with (rising_with [] accepted) coins)
    (c.deposits.ensures
    ∙ ap (deposits_of log) (ap (λ owner. owner.account) c.owner.ensures ∙ account-is c.args.self.now.node.records))
    ∙ rising-both [] accepted (deposits_of log _)
