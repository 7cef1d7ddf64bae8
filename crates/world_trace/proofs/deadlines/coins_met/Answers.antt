use Rattle.std.proofs.Common.{ℕ, List, sym, ◌∙◌, ap, subst, arith}
use Rattle.coin_verdicts.specs.Facts.{has}
use Rattle.world_trace.proofs.Ticks.{AreMetBut, late_meets, met_of_exiting}
use Rattle.world_trace.proofs.deadlines.coins_met.Goals as goal

pub returns-then-time-now : goal.returns-then-time-now
returns-then-time-now c =
    λ coin. ap (λ (met : List ℕ). has met coin) c.new-met.ensures.items
    ∙ late_meets c.args.log.now.log c.args.time (omega arith) coin

pub loop-coin-init : goal.loop-coin-init
loop-coin-init c =
    let log = c.args.log.now.log in
    let time = c.args.time in
    subst (λ (left : List ℕ). AreMetBut log time left c.new-met.result.items)
    (sym c.into_iter-coin-iterator.ensures.into_iter_gives.0)
    (subst (AreMetBut log time c.exiting-coin-items.result.now.keys) (sym c.new-met.ensures.items)
    (met_of_exiting log time c.exiting-coin-items.result.now c.exiting-coin-items.ensures.exactly))
