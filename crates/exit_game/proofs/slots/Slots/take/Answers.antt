use Rattle.exit_game.proofs.SlotLists.{distinct-without}
use Rattle.exit_game.proofs.slots.Slots.take.Goals as goal

pub invariant_of-self : goal.invariant_of-self
invariant_of-self c = rw c.take_slot.ensures.others (distinct-without c.args.block _ c.self.invariant)
