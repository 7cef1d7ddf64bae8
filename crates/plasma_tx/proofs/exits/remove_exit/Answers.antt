use Rattle.plasma_tx.proofs.Words.{rules, not, ◌==◌, filter_same}
use Rattle.plasma_tx.proofs.exits.remove_exit.Goals as goal

pub returns-clause-exits : goal.returns-clause-exits
returns-clause-exits c = filter_same _ (λ exit. not (exit.block == c.args.block)) _
    (λ x b f t. search rules) _ _ c.retain.ensures.filtered
