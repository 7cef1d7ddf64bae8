use Rattle.coin_safety.proofs.Words.{refl, least, ends_of}
use Rattle.coin_safety.proofs.Ends.{first-more}
use Rattle.coin_safety.proofs.look.Look.first_end.Goals as goal

pub loop-exit-init : goal.loop-exit-init
unfolding least
loop-exit-init c = refl

pub loop-exit-preserved : goal.loop-exit-preserved
loop-exit-preserved c =
    first-more (ends_of c.tip-tip.result) c.exits-exit-items.result.now c.loop-exit.exit-index c.exit-item.result
    c.loop-exit.first c.first_exit_end-first.result c.loop-exit-test.true c.exit-item.is c.loop-exit.invariant
    c.first_exit_end-first.ensures
