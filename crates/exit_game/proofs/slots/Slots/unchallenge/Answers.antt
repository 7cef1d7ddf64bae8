use Rattle.exit_game.proofs.Words.{refl, without_last}
use Rattle.exit_game.proofs.SlotLists.{distinct-changed}
use Rattle.exit_game.proofs.slots.Slots.unchallenge.Goals as goal

pub invariant_of-self : goal.invariant_of-self
invariant_of-self c = rw c.unchallenge_slot.ensures
    (distinct-changed c.args.block without_last (λ x. refl) _ c.self.invariant)
