use Rattle.operator_core.proofs.walk.present.Goals as goal

pub walk-requires-2 : goal.walk-requires-2
walk-requires-2 g c = c.begun.ensures (g.H.Hash32.digest_of c.args.trees.now.hash) c.args.log.now.log c.args.trees.now.sealed
    c.args.coin
