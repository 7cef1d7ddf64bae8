use Rattle.std.proofs.Common.{sym, ap, ◌∙◌}
use Rattle.plasma_tx.specs.declared.owner.Owner.{Owner}
use Rattle.safe_runs.specs.Runs.{Node}
use Rattle.safe_runs.proofs.HeldCases.{account-is}
use Rattle.safe_runs.proofs.holdings.HoldingsHolder.account.Goals as goal

pub returns : goal.returns
returns g c node is =
    ap (λ (owner : Owner). owner.account) c.owner.ensures ∙ account-is c.args.self.now.node.records
    ∙ ap (λ (n : Node). n.account) (sym is)
