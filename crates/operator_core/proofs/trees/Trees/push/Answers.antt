use Rattle.operator_core.proofs.Words.{◌≡◌, ◌++◌, ◌∷◌, [], List, length, sym, ap, subst, map-append, HashedMap, Entry, entries_of, KeepsEnds}
use Rattle.operator_core.proofs.Places.{pushed, tree_known}
use Rattle.operator_core.proofs.trees.Trees.push.Goals as goal

pub invariant_of-self : goal.invariant_of-self
invariant_of-self g c =
    let dig = g.H.Hash32.digest_of c.self.inside.defaults.value in
    let items : c.push.new.self.items ≡ c.self.inside.trees.items ++ c.args.tree ∷ [] =
    rw c.unwrap.ensures at c.push.ensures.items in
    let same : c.args.tree.hash ≡ c.self.inside.defaults.value = rw (← c.self.view_is) at c.requires.hash in
    let root = rw same at c.root-root.ensures in
    rw items (record {
      kept = pushed c.self.inside.defaults.value dig c.self.inside.trees.items c.self.inside.index c.args.tree
          c.index_root.new.index c.root-root.result.now (length c.as_slice-place.result.now) c.self.invariant.kept
          (ap length c.as_slice-place.ensures.value) same root c.index_root.ensures;
      walks = subst (λ (all : List (List Entry)). KeepsEnds dig all c.seal_ends.new.ends)
          (sym (map-append (λ (t : HashedMap _). t.entries) c.self.inside.trees.items (c.args.tree ∷ [])))
          (c.seal_ends.ensures.keeps dig (entries_of c.self.inside.trees.items) c.args.tree.entries
          c.self.invariant.walks root (tree_known c.self.inside.defaults.value dig c.self.inside.trees.items
          c.self.inside.index c.root-root.result.now c.self.invariant.kept));
    })
