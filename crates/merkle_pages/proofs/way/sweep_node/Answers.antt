use Rattle.std.proofs.Common.{None, refl}
use Rattle.merkle_pages.proofs.WayLaws.{reads-put}
use Rattle.merkle_pages.proofs.way.sweep_node.Goals as goal

pub returns-then-keeps : goal.returns-then-keeps
returns-then-keeps c =
    reads-put c.args.defaults.now c.args.level c.args.coin None c.args.pages.now c.remove_node.new.pages
    c.remove_node.ensures (rw (c.keeps.ensures c.if-keeps.true) refl)
