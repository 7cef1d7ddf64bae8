use Rattle.std.proofs.Common.{sym, ap, ◌∙◌}
use Rattle.std.proofs.lemmas.Result.{IfOk-weaker}
use Rattle.safe_runs.specs.Runs.{Node}
use Rattle.safe_runs.proofs.GuardCases.{guards-said}
use Rattle.safe_runs.proofs.guards.GuardsHolder.cases.Goals as goal

pub returns : goal.returns
returns c node is =
    IfOk-weaker c.cases_of.result _ _
    (λ cases said. said
    ∙ guards-said is.0 is.1 c.args.log.now.log c.args.hidden.now c.args.self.now.tag c.args.self.now.account
    c.args.self.now.all.entries is.2
    ∙ ap (λ (n : Node). n.cases c.args.log.now.log c.args.hidden.now) (sym is.3))
    c.cases_of.ensures
