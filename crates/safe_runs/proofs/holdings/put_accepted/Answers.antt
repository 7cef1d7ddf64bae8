use Rattle.std.proofs.Common.{sym, ◌∙◌, ap}
use Rattle.std.specs.Ordering.{nat_cmp}
use Rattle.std.specs.BTreeSet.{insert_key}
use Rattle.safe_runs.proofs.Loops.{rising-none, rising-map-take}
use Rattle.safe_runs.proofs.holdings.put_accepted.Goals as goal

pub loop-kept-init : goal.loop-kept-init
loop-kept-init c = sym (rising-none c.args.set.now.keys)

pub loop-kept-preserved : goal.loop-kept-preserved
loop-kept-preserved c =
    c.in_ok-put_kept.ensures
    ∙ ap (λ keys. insert_key nat_cmp keys c.kept-item.result.coin) c.loop-kept.invariant
    ∙ sym (rising-map-take (λ kept. kept.coin) c.args.set.now.keys c.args.accepted.now c.loop-kept.kept-index
    c.kept-item.result c.loop-kept-test.true c.kept-item.is)
