use Rattle.exit_game.proofs.Words.{◌==◌, List, position, sym, ap, ◌∙◌, Slot, with_challenge}
use Rattle.exit_game.proofs.SlotLists.{changed-place, changed-nowhere}
use Rattle.exit_game.proofs.slots.challenge_slot.Goals as goal

pub returns-in_default-clause-ok : goal.returns-in_default-clause-ok
returns-in_default-clause-ok c =
    changed-nowhere c.args.block (with_challenge c.args.challenge) c.args.slots.now.items
    (sym c.in_default.is ∙ c.place_of.ensures
    ∙ ap (λ (l : List Slot). position (λ x. x.block == c.args.block) l) c.as_slice.ensures.value)

pub returns-clause-ok : goal.returns-clause-ok
returns-clause-ok c =
    changed-place c.args.block
    (with_challenge c.args.challenge) c.args.slots.now.items c.in-Some.place c.index_mut-slot.result.now _ c.requires
    (sym c.in-Some.is ∙ c.place_of.ensures
    ∙ ap (λ (l : List Slot). position (λ x. x.block == c.args.block) l) c.as_slice.ensures.value)
    c.index_mut-slot.ensures.value
    (λ i. record c.index_mut-slot.result.now { challenges = c.in_ok-push.ensures.ok i })
