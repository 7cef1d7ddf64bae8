use Rattle.plasma_tx.proofs.Words.{refl, standing_after, with_answer_view}
use Rattle.plasma_tx.proofs.States.{distinct-changed}
use Rattle.plasma_tx.proofs.standing.CoinState.respond.Goals as goal

pub invariant_of-self-2 : goal.invariant_of-self-2
invariant_of-self-2 c = rw c.answer_exit.ensures
    (distinct-changed c.args.response.exit (with_answer_view c.args.response.block) (λ x. refl) _ c.self.invariant)

pub returns-clause-ok : goal.returns-clause-ok
unfolding standing_after
returns-clause-ok c = rw (c.answer_exit.ensures, c.in_ok-push.ensures.items, ← c.self.view_is) refl
