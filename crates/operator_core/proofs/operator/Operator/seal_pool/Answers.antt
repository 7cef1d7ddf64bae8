use Rattle.operator_core.proofs.Adds.{sealed_adds, right_sealed}
use Rattle.operator_core.proofs.operator.Operator.seal_pool.Goals as goal

pub add-requires-clause-fits : goal.add-requires-clause-fits
add-requires-clause-fits g c =
    (sealed_adds c.self.inside.notes.notes.records c.in_ok-body.body c.in_ok-body.ensures c.is_whole.ensures.role).fits

pub invariant_of-self-in-Ok : goal.invariant_of-self-in-Ok
invariant_of-self-in-Ok g c =
    let adds = sealed_adds c.self.inside.notes.notes.records c.in_ok-body.body c.in_ok-body.ensures
    c.is_whole.ensures.role in
    right_sealed c.self.inside.hash c.self.inside.notes.notes.records c.add.new.self.notes.records c.in_ok-body.body
    c.self.inside.who c.self.inside.pool c.undo.new.self c.take.new.self c.self.inside.trees c.make_room.new.self
    c.push.new.self c.in_ok-tree.tree c.self.invariant adds c.in-Ok.ensures.did.records c.in_ok-undo.ensures.undone
    c.undo.ensures.hash c.make_room.ensures.same c.make_room.ensures.hash c.in_ok-tree.ensures.tree
    c.in_ok-tree.ensures.empty c.push.ensures.added c.push.ensures.hash
