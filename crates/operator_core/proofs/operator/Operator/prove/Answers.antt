use Rattle.operator_core.proofs.Short.{short_trees}
use Rattle.operator_core.proofs.operator.Operator.prove.Goals as goal

pub opening_at-requires : goal.opening_at-requires
opening_at-requires g c =
    short_trees c.self.inside.hash c.self.inside.notes.notes.records c.self.inside.who c.self.inside.pool
    c.self.inside.trees c.self.invariant
