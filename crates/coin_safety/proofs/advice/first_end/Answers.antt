use Rattle.coin_safety.proofs.Words.{refl, least, exits_of, end_of_call}
use Rattle.coin_safety.proofs.Ends.{lesser-more}
use Rattle.coin_safety.proofs.advice.first_end.Goals as goal

pub loop-call-init : goal.loop-call-init
unfolding least
loop-call-init c = refl

pub loop-call-preserved : goal.loop-call-preserved
loop-call-preserved c =
    lesser-more (end_of_call (exits_of c.args.log.now.log c.args.coin)) c.args.calls.now c.loop-call.call-index
    c.call-item.result c.loop-call.first c.end_of_call.result c.lesser.result c.loop-call-test.true c.call-item.is
    c.loop-call.invariant c.end_of_call.ensures c.lesser.ensures
