use Rattle.std.proofs.Common.{below_more, sym, ◌∙◌, arith}
use Rattle.wallet_core.proofs.StateLaws.{sends_at, sending_lowest, sending_none}
use Rattle.wallet_core.proofs.coin_state.sending_leaf.Goals as goal

pub loop-q-preserved : goal.loop-q-preserved
loop-q-preserved c = below_more _ _ c.loop-q.invariant
    (sends_at c.args.reclaimed.now c.args.leaves.now c.args.coin c.args.tip c.loop-q.q _ c.loop-q-test.true
    ∙ sym c.signs_away.ensures ∙ c.if-signs_away.false)

pub returns : goal.returns
returns c few = sym (sending_none c.args.reclaimed.now c.args.leaves.now c.args.coin c.args.tip
    (λ k h. c.loop-q.invariant k (omega arith)))

pub returns-then-signs_away : goal.returns-then-signs_away
returns-then-signs_away c few = sym
    (sending_lowest c.args.reclaimed.now c.args.leaves.now c.args.coin c.args.tip c.loop-q.q
    (sends_at c.args.reclaimed.now c.args.leaves.now c.args.coin c.args.tip c.loop-q.q _ c.loop-q-test.true
    ∙ sym c.signs_away.ensures ∙ c.if-signs_away.true) c.loop-q.invariant)
