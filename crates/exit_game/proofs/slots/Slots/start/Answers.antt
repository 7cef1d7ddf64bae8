use Rattle.exit_game.proofs.SlotLists.{distinct-push, none-any}
use Rattle.exit_game.proofs.slots.Slots.start.Goals as goal

pub invariant_of-self-2 : goal.invariant_of-self-2
invariant_of-self-2 c = rw c.in_ok-push.ensures.items
    (distinct-push _ c.args.slot c.self.invariant (none-any c.args.slot.block _ (rw (← c.self.view_is) at c.requires)))
