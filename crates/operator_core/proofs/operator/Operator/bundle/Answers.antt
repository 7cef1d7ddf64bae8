use Rattle.operator_core.proofs.Short.{short_trees}
use Rattle.operator_core.proofs.operator.Operator.bundle.Goals as goal

pub bundle_of-requires : goal.bundle_of-requires
bundle_of-requires g c =
    record {
      short = short_trees c.self.inside.hash c.self.inside.notes.notes.records c.self.inside.who c.self.inside.pool
          c.self.inside.trees c.self.invariant;
    }
