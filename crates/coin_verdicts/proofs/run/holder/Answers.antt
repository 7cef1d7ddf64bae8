use Rattle.std.proofs.Common.{◌+◌, None, Some, refl, ap, ◌∙◌}
use Rattle.coin_verdicts.specs.declared.fact.Fact.{Fact}
use Rattle.coin_verdicts.specs.Notes.{declared, holder_in}
use Rattle.coin_verdicts.proofs.FactLoops.{holder-more, holder-found}
use Rattle.coin_verdicts.proofs.run.holder.Goals as goal

pub loop-i-init : goal.loop-i-init
unfolding holder_in
loop-i-init c = refl

pub loop-i-preserved : goal.loop-i-preserved
loop-i-preserved c =
    holder-more c.args.facts.now c.args.wallet c.loop-i.i c.index-facts-i.result None c.loop-i-test.true
    c.loop-i.invariant
    (c.in_default.ensures
    ∙ ap (λ (fact : Fact). declared c.args.wallet (c.loop-i.i + 1) fact) c.index-facts-i.is)

pub returns-in-Some : goal.returns-in-Some
returns-in-Some c =
    holder-found c.args.facts.now c.args.wallet (c.loop-i.i + 1) c.in-Some.holder
    (holder-more c.args.facts.now c.args.wallet c.loop-i.i c.index-facts-i.result (Some c.in-Some.holder)
    c.loop-i-test.true c.loop-i.invariant
    (c.in-Some.ensures
    ∙ ap (λ (fact : Fact). declared c.args.wallet (c.loop-i.i + 1) fact) c.index-facts-i.is))
