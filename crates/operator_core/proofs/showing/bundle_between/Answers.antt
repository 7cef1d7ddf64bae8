use Rattle.operator_core.proofs.Ways.{between_rise}
use Rattle.operator_core.proofs.showing.bundle_between.Goals as goal

pub returns-in-Ok-clause-rising : goal.returns-in-Ok-clause-rising
returns-in-Ok-clause-rising g c =
    rw c.from_vec.ensures (between_rise
    (g.H.Hash32.digest_of c.args.trees.now.hash) c.args.log.now.log c.args.trees.now.sealed c.args.coin
    c.args.after c.args.last c.in-Ok.openings.items c.in-Ok.ensures.made)
