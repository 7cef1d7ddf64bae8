use Rattle.std.proofs.Common.{List, [], ◌∷◌, ◌++◌, filter, ◌∙◌, ap}
use Rattle.plasma_tx.specs.declared.call.RootCall.{RootCall}
use Rattle.safe_runs.specs.Inside.{makes_block}
use Rattle.safe_runs.proofs.HeldCases.{made-more}
use Rattle.safe_runs.proofs.holdings.made_by.Goals as goal

pub loop-call-preserved : goal.loop-call-preserved
loop-call-preserved c =
    c.in_ok-push_made.ensures
    ∙ ap (λ (log : List RootCall). filter makes_block (c.call-item.result ∷ []) ++ log) c.loop-call.invariant
    ∙ made-more c.events-events.result.now c.loop-call.call-index c.call-item.result c.loop-call-test.true
    c.call-item.is
