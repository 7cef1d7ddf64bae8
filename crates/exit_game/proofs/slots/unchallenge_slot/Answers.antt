use Rattle.exit_game.proofs.Words.{◌==◌, List, position, sym, ap, ◌∙◌, Slot, without_last}
use Rattle.exit_game.proofs.SlotLists.{changed-place, changed-nowhere}
use Rattle.exit_game.proofs.slots.unchallenge_slot.Goals as goal

pub returns-in-Some : goal.returns-in-Some
returns-in-Some c =
    changed-place c.args.block
    without_last c.args.slots.now.items c.in-Some.place c.index_mut-slot.result.now _ c.requires
    (sym c.in-Some.is ∙ c.place_of.ensures
    ∙ ap (λ (l : List Slot). position (λ x. x.block == c.args.block) l) c.as_slice.ensures.value)
    c.index_mut-slot.ensures.value (λ i. record c.index_mut-slot.result.now { challenges = c.take_back.ensures i })

pub returns-in_default : goal.returns-in_default
returns-in_default c =
    changed-nowhere c.args.block without_last c.args.slots.now.items
    (sym c.in_default.is ∙ c.place_of.ensures
    ∙ ap (λ (l : List Slot). position (λ x. x.block == c.args.block) l) c.as_slice.ensures.value)
