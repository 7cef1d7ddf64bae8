use Rattle.operator_core.specs.Inside.{entries_of}
use Rattle.operator_core.proofs.Walked.{end_is}
use Rattle.operator_core.proofs.trees.Trees.keep.Goals as goal

pub invariant_of-self : goal.invariant_of-self
invariant_of-self g c =
    let dig = g.H.Hash32.digest_of c.self.inside.defaults.value in
    let sealed = entries_of c.self.inside.trees.items in
    record {
      kept = c.self.invariant.kept;
      walks = c.keep.ensures.keeps dig sealed c.self.invariant.walks (λ within. end_is dig sealed
          c.self.inside.ends.roots.items c.args.coin c.args.end c.args.log.now.log
          (rw (← c.self.view_is) at c.requires.follows) within (rw (← c.self.view_is) at c.requires.placed));
    }
