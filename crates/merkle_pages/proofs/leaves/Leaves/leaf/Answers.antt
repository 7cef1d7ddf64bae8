use Rattle.std.proofs.Common.{refl}
use Rattle.merkle_pages.proofs.LeafLaws.{leaf-found}
use Rattle.merkle_pages.proofs.leaves.Leaves.leaf.Goals as goal

pub returns-in-Some-clause-leaf : goal.returns-in-Some-clause-leaf
returns-in-Some-clause-leaf c =
    rw (← c.self.view_is, leaf-found c.self.inside.map.entries c.args.coin, ← c.in-Some.ensures.value)
    c.as_slice.ensures

pub returns-in-None-clause-leaf : goal.returns-in-None-clause-leaf
returns-in-None-clause-leaf c =
    rw (← c.self.view_is, leaf-found c.self.inside.map.entries c.args.coin, ← c.in-None.ensures.value) refl
