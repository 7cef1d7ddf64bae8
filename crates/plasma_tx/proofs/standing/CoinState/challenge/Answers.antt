use Rattle.plasma_tx.proofs.Words.{refl, standing_after, with_challenge_view}
use Rattle.plasma_tx.proofs.States.{distinct-changed, same_block}
use Rattle.plasma_tx.proofs.standing.CoinState.challenge.Goals as goal

pub invariant_of-self : goal.invariant_of-self
invariant_of-self c = rw c.in_err-challenge_exit.ensures.err c.self.invariant

pub invariant_of-self-2 : goal.invariant_of-self-2
invariant_of-self-2 c = rw c.in_ok-challenge_exit.ensures.ok
    (distinct-changed c.args.exit (with_challenge_view _) (same_block _) _ c.self.invariant)

pub returns-clause-ok : goal.returns-clause-ok
unfolding standing_after
returns-clause-ok c =
    rw (
      c.in_ok-challenge_exit.ensures.ok,
      c.is_responded-answered.ensures,
      c.deref.ensures.value,
      ← c.self.view_is,
    ) refl
