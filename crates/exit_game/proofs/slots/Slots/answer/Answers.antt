use Rattle.exit_game.proofs.Words.{refl, with_answer}
use Rattle.exit_game.proofs.SlotLists.{distinct-changed}
use Rattle.exit_game.proofs.slots.Slots.answer.Goals as goal

pub invariant_of-self : goal.invariant_of-self
invariant_of-self c = rw c.answer_slot.ensures
    (distinct-changed c.args.block (with_answer c.args.challenged) (λ x. refl) _ c.self.invariant)
