use Rattle.merkle_pages.proofs.Words.{arith, AreDefaults}
use Rattle.merkle_pages.proofs.WayLaws.{KeepsNodes-put}
use Rattle.merkle_pages.proofs.tree.SharedTree.put.Goals as goal

pub invariant_of-self-2 : goal.invariant_of-self-2
invariant_of-self-2 g c =
    let dig = g.H.Hash32.digest_of c.self.inside.hash in
    let lent : AreDefaults (g.H.Hash32.digest_of c.args.self.now.hash) c.below.result.now =
    rw c.requires at c.below.ensures in
    let are : AreDefaults dig c.below.result.now = rw (← c.self.view_is) at lent in
    rw c.in_ok-put_on_way.ensures.put (KeepsNodes-put dig c.self.inside.leaves c.below.result.now c.self.inside.root
    c.self.inside.pages c.put_on_way.new.pages are c.self.invariant c.args.coin c.args.leaf.now
    c.digests_with-digests.result (omega arith) (rw (← c.self.view_is) at c.digests_with-digests.ensures)
    c.in_ok-put_on_way.ensures.set)
