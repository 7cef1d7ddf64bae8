use Rattle.std.proofs.Common.{◌≡◌, ◌∙◌, rules}
use Rattle.merkle_pages.proofs.LeafLaws.{inserted, removed}
use Rattle.merkle_pages.proofs.leaves.put_leaf.Goals as goal

pub returns-then-is_empty-clause-ok : goal.returns-then-is_empty-clause-ok
returns-then-is_empty-clause-ok c =
    rw c.remove.ensures.entries (removed c.args.map.now.entries c.args.coin c.args.leaf.now c.requires (search rules))

pub returns-clause-ok : goal.returns-clause-ok
returns-clause-ok c =
    let leaf : c.from_vec-leaf.result ≡ c.args.leaf.now = c.from_vec-leaf.ensures ∙ c.in_ok-from_slice.ensures.items in
    rw (c.in_ok-insert.ensures.entries, leaf) (inserted c.args.map.now.entries c.args.coin c.args.leaf.now c.requires
    (search (rules, c.if-is_empty.ensures, c.if-is_empty.false, c.is_empty.ensures)))
