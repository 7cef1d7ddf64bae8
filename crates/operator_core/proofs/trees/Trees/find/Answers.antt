use Rattle.operator_core.proofs.Places.{no_tree, has_tree, found_is}
use Rattle.operator_core.proofs.Words.{tree_of, entries_of}
use Rattle.operator_core.proofs.trees.Trees.find.Goals as goal

pub returns-in_err-place-clause-found : goal.returns-in_err-place-clause-found
returns-in_err-place-clause-found g c =
    rw (c.from_residual.ensures, ← c.self.view_is) (no_tree c.self.inside.defaults.value
    (g.H.Hash32.digest_of c.self.inside.defaults.value)
    c.self.inside.trees.items c.self.inside.index c.args.root.now c.self.invariant.kept c.in_err-place.ensures.value)

pub returns : goal.returns
returns g c =
    let dig = g.H.Hash32.digest_of c.self.inside.defaults.value in
    let has = has_tree c.self.inside.defaults.value dig c.self.inside.trees.items c.self.inside.index c.args.root.now
    c.in_ok-place.field-0.now c.self.invariant.kept c.in_ok-place.ensures.value in
    let both = found_is c.self.inside.trees.items c.in_ok-place.field-0.now c.self.inside.defaults.value c.tree_at.result
    (tree_of dig (entries_of c.self.inside.trees.items) c.args.root.now) has
    (rw c.as_slice.ensures.value at c.tree_at.ensures) in
    rw (← c.self.view_is) (record { found = both.0; hash = both.1 })
