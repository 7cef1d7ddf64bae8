use Rattle.operator_core.proofs.walk.start.Goals as goal

pub returns-in-None : goal.returns-in-None
returns-in-None g c = c.begun.ensures (g.H.Hash32.digest_of c.args.trees.now.hash) c.args.log.now.log c.args.trees.now.sealed
    c.args.coin
