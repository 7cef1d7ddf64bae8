use Rattle.std.proofs.Common.{◌∙◌, ◌++◌, ℕ, List, take, refl, ap, subst}
use Rattle.std.proofs.lemmas.List.{take_all}
use Rattle.trace_exhibits.specs.Ways.{strings_in_all}
use Rattle.trace_exhibits.specs.Findings.{FindsClash}
use Rattle.trace_exhibits.proofs.Added.{more-shown}
use Rattle.trace_exhibits.proofs.Found.{same-finds}
use Rattle.trace_exhibits.proofs.collisions.Collisions.take_all.Goals as goal

pub loop-one-init : goal.loop-one-init
loop-one-init g c = record {
  stay = refl;
  still = λ place one is. is;
  finds = λ earlier finds. same-finds (g.H.Hash32.digest_of c.args.h.now) earlier c.args.self.now finds;
}

pub loop-one-preserved : goal.loop-one-preserved
loop-one-preserved g c =
    let dig = g.H.Hash32.digest_of c.args.h.now in
    record {
      stay = c.in_ok-take.ensures.stay ∙ c.loop-one.invariant.stay;
      still = λ place one is. c.in_ok-take.ensures.still place one (c.loop-one.invariant.still place one is);
      finds = λ earlier finds. subst (λ (all : List (List ℕ)). FindsClash dig all c.take.new.self)
          (more-shown dig earlier c.args.shown.now c.loop-one.one-index c.one-item.result c.loop-one-test.true
          c.one-item.is)
          (c.in_ok-take.ensures.finds (earlier ++ strings_in_all dig (take c.loop-one.one-index c.args.shown.now))
          (c.loop-one.invariant.finds earlier finds));
    }

pub returns-clause-finds : goal.returns-clause-finds
returns-clause-finds g c earlier finds =
    let dig = g.H.Hash32.digest_of c.args.h.now in
    subst (λ (all : List (List ℕ)). FindsClash dig all c.loop-one.self)
    (ap (λ shown. earlier ++ strings_in_all dig shown)
    (take_all c.loop-one.one-index c.args.shown.now c.loop-one-test.false))
    (c.loop-one.invariant.finds earlier finds)
