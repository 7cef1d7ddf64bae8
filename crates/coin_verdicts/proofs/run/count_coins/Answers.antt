use Rattle.std.proofs.Common.{◌<◌, length, refl, ◌∙◌, ap, arith}
use Rattle.coin_verdicts.specs.Wallets.{made_by, coins_in}
use Rattle.coin_verdicts.proofs.FactLoops.{coins-more}
use Rattle.coin_verdicts.proofs.run.count_coins.Goals as goal

pub loop-fact-init : goal.loop-fact-init
unfolding coins_in
loop-fact-init c = record { is = refl; few = omega arith }

pub loop-fact-preserved : goal.loop-fact-preserved
loop-fact-preserved c =
    let within : c.loop-fact.fact-index < length c.args.facts.now = omega arith in
    record {
      is = coins-more c.args.facts.now c.loop-fact.fact-index c.fact-item.result c.loop-fact.count
          c.made_by-count.result within c.loop-fact.invariant.is
          (c.made_by-count.ensures.value ∙ ap made_by c.fact-item.is);
      few = omega (arith, c.made_by-count.ensures.few, c.loop-fact.invariant.few);
    }
