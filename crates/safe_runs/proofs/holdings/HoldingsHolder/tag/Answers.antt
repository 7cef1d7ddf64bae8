use Rattle.std.proofs.Common.{sym, ap, ◌∙◌}
use Rattle.safe_runs.specs.Runs.{Node}
use Rattle.safe_runs.proofs.holdings.HoldingsHolder.tag.Goals as goal

pub returns : goal.returns
returns g c node is = c.tag.ensures ∙ ap (λ (n : Node). n.tag) (sym is)
