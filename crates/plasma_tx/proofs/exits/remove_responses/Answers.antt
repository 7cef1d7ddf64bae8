use Rattle.plasma_tx.proofs.Words.{rules, not, filter_same, is_response_to}
use Rattle.plasma_tx.proofs.exits.remove_responses.Goals as goal

pub returns : goal.returns
returns c = filter_same _ (λ response. not (is_response_to c.args.coin c.args.exit response)) _
    (λ x b f t. search rules) _ _ c.retain.ensures.filtered
