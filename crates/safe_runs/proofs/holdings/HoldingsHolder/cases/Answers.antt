use Rattle.std.proofs.Common.{sym, ap, ◌∙◌}
use Rattle.std.proofs.lemmas.Result.{IfOk-weaker}
use Rattle.safe_runs.specs.Runs.{Node}
use Rattle.safe_runs.proofs.holdings.HoldingsHolder.cases.Goals as goal

pub returns : goal.returns
returns g c node is =
    IfOk-weaker c.all_cases.result _ _
    (λ cases said. said ∙ ap (λ (n : Node). n.cases c.args.log.now.log c.args.hidden.now) (sym is))
    c.all_cases.ensures
