use Rattle.std.proofs.Common.{sym, ap, ◌∙◌}
use Rattle.safe_runs.specs.Runs.{Node}
use Rattle.safe_runs.proofs.guards.GuardsHolder.tag.Goals as goal

pub returns : goal.returns
returns c node is = is.2.is_tag ∙ ap (λ (n : Node). n.tag) (sym is.3)
