use Rattle.std.proofs.Common.{sym, ◌∙◌, ap, get_or}
use Rattle.std.specs.Ordering.{nat_cmp}
use Rattle.std.specs.BTreeSet.{insert_key}
use Rattle.safe_runs.proofs.Loops.{rising-none, rising_at}
use Rattle.safe_runs.proofs.holdings.put_coins.Goals as goal

pub loop-coin-init : goal.loop-coin-init
loop-coin-init c = sym (rising-none c.args.set.now.keys)

pub loop-coin-preserved : goal.loop-coin-preserved
loop-coin-preserved c =
    c.in_ok-put_coin.ensures
    ∙ ap (λ keys. insert_key nat_cmp keys (get_or c.args.coins.now c.loop-coin.coin-index 0)) c.loop-coin.invariant
    ∙ sym (rising_at c.args.set.now.keys c.args.coins.now c.loop-coin.coin-index c.loop-coin-test.true)
