use Rattle.exit_game.proofs.Words.{◌==◌, List, position, sym, ap, ◌∙◌, Slot}
use Rattle.exit_game.proofs.SlotLists.{found-nowhere, taken-slot, taken-others}
use Rattle.exit_game.proofs.slots.take_slot.Goals as goal

pub unreachable-requires : goal.unreachable-requires
unreachable-requires c =
    found-nowhere c.args.block c.args.slots.now.items
    (sym c.in-None.is ∙ c.place_of.ensures
    ∙ ap (λ (l : List Slot). position (λ x. x.block == c.args.block) l) c.as_slice.ensures.value) c.requires.there

pub returns-clause-slot : goal.returns-clause-slot
returns-clause-slot c =
    taken-slot c.args.block c.args.slots.now.items c.in-Some.place c.remove.result c.requires.distinct
    (sym c.in-Some.is ∙ c.place_of.ensures
    ∙ ap (λ (l : List Slot). position (λ x. x.block == c.args.block) l) c.as_slice.ensures.value) c.remove.ensures.value

pub returns-clause-others : goal.returns-clause-others
returns-clause-others c =
    c.remove.ensures.items
    ∙ taken-others c.args.block c.args.slots.now.items c.in-Some.place c.remove.result c.requires.distinct
    (sym c.in-Some.is ∙ c.place_of.ensures
    ∙ ap (λ (l : List Slot). position (λ x. x.block == c.args.block) l) c.as_slice.ensures.value)
