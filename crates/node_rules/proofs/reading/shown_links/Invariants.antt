use Rattle.std.proofs.Common.{take}
use Rattle.node_rules.proofs.ShownCoins.{Shows}
use Rattle.node_rules.proofs.reading.shown_links.Given as goal

abbrev pub invariant-loop-opening : goal.invariant-loop-opening
invariant-loop-opening g l =
    Shows (g.H.Hash32.digest_of l.h) l.tag l.coin (take l.opening-index l.openings) l.spends.items
