use Rattle.plasma_tx.proofs.Words.{refl, standing_after}
use Rattle.plasma_tx.proofs.States.{distinct-without}
use Rattle.plasma_tx.proofs.standing.CoinState.end.Goals as goal

pub invariant_of-self : goal.invariant_of-self
invariant_of-self c = rw c.remove_exit.ensures.exits (distinct-without c.args.block _ c.self.invariant)

pub returns : goal.returns
unfolding standing_after
returns c = rw (c.remove_exit.ensures.exits, c.remove_responses.ensures, ← c.self.view_is) refl
