use Rattle.std.proofs.Common.{◌<◌, ◌+◌, ◌∷◌, List, length, take, reverse, subst, sym, ap, arith}
use Rattle.coin_verdicts.specs.declared.fact.Fact.{Fact}
use Rattle.coin_verdicts.specs.Readings.{Keeps}
use Rattle.coin_verdicts.proofs.Loops.{reversed-more}
use Rattle.coin_verdicts.proofs.FactLoops.{so-many}
use Rattle.coin_verdicts.proofs.run.read_all.Goals as goal

pub loop-i-preserved : goal.loop-i-preserved
loop-i-preserved c =
    let within : c.loop-i.i < length c.args.facts.now = omega arith in
    subst (λ (facts : List Fact). Keeps c.args.count facts c.read.new.self)
    (sym (reversed-more c.args.facts.now c.loop-i.i c.index-facts-i.result within))
    (subst (λ (fact : Fact). Keeps c.args.count (fact ∷ reverse (take c.loop-i.i c.args.facts.now)) c.read.new.self)
    c.index-facts-i.is
    (c.in_ok-read.ensures c.args.count (reverse (take c.loop-i.i c.args.facts.now))
    (sym (ap (λ n. n + 1) (so-many c.args.facts.now c.loop-i.i within))) c.loop-i.invariant))
