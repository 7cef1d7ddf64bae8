use Rattle.std.proofs.Common.{rules}
use Rattle.operator_core.proofs.Ways.{openings_steps, lengths_more}
use Rattle.operator_core.proofs.showing.openings_between.Goals as goal
use Rattle.operator_core.proofs.showing.openings_between.Goals.{then-is_committed+in-Ok+in_ok-push-in-Ok, else-is_committed}

pub way-preserved : goal.way-preserved
way-preserved g c = elim c.if-is_committed.branch [
  | then-is_committed+in-Ok+in_ok-push-in-Ok w ↦ record {
    made = search (rules, openings_steps);
    count = search rules;
    lengths = search (rules, lengths_more);
    within = λ before. search rules;
  }
  | else-is_committed w ↦ record {
    made = search (rules, openings_steps);
    count = search rules;
    lengths = search rules;
    within = λ before. search rules;
  }
]
