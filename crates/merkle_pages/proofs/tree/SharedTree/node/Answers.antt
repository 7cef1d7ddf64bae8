use Rattle.std.proofs.Common.{arith}
use Rattle.merkle_pages.proofs.NodeLaws.{node-root}
use Rattle.merkle_pages.proofs.tree.SharedTree.node.Goals as goal

pub returns-then-level-eq64 : goal.returns-then-level-eq64
returns-then-level-eq64 g c =
    rw (← c.self.view_is) (node-root (g.H.Hash32.digest_of c.self.inside.hash)
    c.self.inside.leaves c.self.inside.root c.self.inside.pages c.args.level c.args.coin (omega arith) (omega arith)
    c.self.invariant)
