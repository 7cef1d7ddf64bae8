use Rattle.std.proofs.Common.{[]}
use Rattle.merkle_pages.proofs.NodeLaws.{KeepsNode-put, KeepsNode-root}
use Rattle.merkle_pages.proofs.nodes.keep_part.Goals as goal

pub returns-then-level-eq64 : goal.returns-then-level-eq64
returns-then-level-eq64 g c =
    KeepsNode-root (g.H.Hash32.digest_of c.args.defaults.now) [] c.args.level c.args.coin c.args.digest.now
    c.args.pages.now c.if-level-eq64.true

pub returns : goal.returns
returns g c =
    KeepsNode-put (g.H.Hash32.digest_of c.args.defaults.now) [] c.args.level c.args.coin c.args.digest.now
    c.of_level.result.now c.args.pages.now c.keep_node.new.pages c.in_ok-keep_node.ensures c.of_level.ensures
