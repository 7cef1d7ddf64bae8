use Rattle.merkle_pages.proofs.WayLaws.{KeepsNodes-none}
use Rattle.merkle_pages.proofs.tree.SharedTree.new.Goals as goal

pub invariant_of-result : goal.invariant_of-result
invariant_of-result g c =
    rw (c.hash.ensures, c.new.ensures) (KeepsNodes-none (g.H.Hash32.digest_of c.args.defaults.now)
    c.of_level.result.now c.new-2.result c.of_level.ensures c.new-2.ensures.empty)
