use Rattle.operator_core.specs.Inside.{entries_of}
use Rattle.operator_core.proofs.trees.Trees.follow.Goals as goal

pub invariant_of-self : goal.invariant_of-self
invariant_of-self g c = record {
  kept = c.self.invariant.kept;
  walks = c.follow.ensures.keeps (g.H.Hash32.digest_of c.self.inside.defaults.value)
      (entries_of c.self.inside.trees.items) c.self.invariant.walks;
}
