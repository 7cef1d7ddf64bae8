use Rattle.std.proofs.Common.{arith}
use Rattle.operator_core.proofs.Adds.{laid_adds}
use Rattle.operator_core.proofs.operator.Operator.lay_short.Goals as goal

pub add_put-requires : goal.add_put-requires
add_put-requires g c =
    rw (← c.self.view_is) (laid_adds c.self.inside.notes.notes.records c.args.coin c.args.bytes.now c.in_ok-body.body
    c.in_ok-body.ensures c.requires (omega arith) c.is_whole.ensures.role)
