use Rattle.wallet_core.proofs.Words.{◌==◌, ◌||◌, ap, ◌∙◌, List, ℕ, list_any}
use Rattle.wallet_core.proofs.StateLaws.{has_after_insert}
use Rattle.wallet_core.proofs.notes.LeafNumbers.insert.Goals as goal

pub returns-clause-numbers : goal.returns-clause-numbers
returns-clause-numbers c n =
    has_after_insert c.self.inside.numbers.keys c.insert.new.self.keys c.args.q c.in_ok-insert.ensures.updates.0 n
    ∙ ap (λ (keys : List ℕ). (n == c.args.q) || list_any (λ other. other == n) keys) c.self.view_is
