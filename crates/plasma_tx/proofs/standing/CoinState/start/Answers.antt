use Rattle.plasma_tx.proofs.Words.{refl, arith, standing_after}
use Rattle.plasma_tx.proofs.States.{distinct-started}
use Rattle.plasma_tx.proofs.standing.CoinState.start.Goals as goal

pub push_reserved-requires : goal.push_reserved-requires
push_reserved-requires c = omega (arith, c.in_ok-reserve.ensures.ok)

pub invariant_of-self-2 : goal.invariant_of-self-2
invariant_of-self-2 c = rw (c.push_reserved.ensures, c.remove_exit.ensures.exits, c.in_ok-reserve.ensures.items)
    (distinct-started c.args.exit _ c.self.invariant)

pub returns-clause-ok : goal.returns-clause-ok
unfolding standing_after
returns-clause-ok c =
    rw (
      c.push_reserved.ensures,
      c.remove_exit.ensures.exits,
      c.in_ok-reserve.ensures.items,
      c.remove_responses.ensures,
      ← c.self.view_is,
    ) refl
