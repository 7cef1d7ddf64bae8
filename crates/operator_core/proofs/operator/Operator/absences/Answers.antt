use Rattle.operator_core.proofs.Short.{short_trees}
use Rattle.operator_core.proofs.operator.Operator.absences.Goals as goal

pub bundle_between-requires : goal.bundle_between-requires
bundle_between-requires g c =
    record {
      short = short_trees c.self.inside.hash c.self.inside.notes.notes.records c.self.inside.who c.self.inside.pool
          c.self.inside.trees c.self.invariant;
    }
