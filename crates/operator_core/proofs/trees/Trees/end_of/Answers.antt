use Rattle.operator_core.specs.Inside.{entries_of}
use Rattle.operator_core.proofs.trees.Trees.end_of.Goals as goal

pub returns : goal.returns
returns g c = rw (← c.self.view_is) (c.end_of.ensures (g.H.Hash32.digest_of c.self.inside.defaults.value)
    (entries_of c.self.inside.trees.items) c.self.invariant.walks)
