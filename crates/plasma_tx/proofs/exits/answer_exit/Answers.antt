use Rattle.plasma_tx.proofs.Words.{◌==◌, List, position, sym, ap, ◌∙◌, ExitView, with_answer_view}
use Rattle.plasma_tx.proofs.States.{changed-place, changed-nowhere}
use Rattle.plasma_tx.proofs.exits.answer_exit.Goals as goal

pub returns-in-Some : goal.returns-in-Some
returns-in-Some c =
    changed-place c.args.block
    (with_answer_view c.args.challenged) c.args.exits.now.items c.in-Some.place c.index_mut-exit.result.now _ c.requires
    (sym c.in-Some.is ∙ c.place_of.ensures
    ∙ ap (λ (l : List ExitView). position (λ x. x.block == c.args.block) l) c.as_slice.ensures.value)
    c.index_mut-exit.ensures.value (λ i. record c.index_mut-exit.result.now { challenges = c.answer.ensures i })

pub returns-in_default : goal.returns-in_default
returns-in_default c =
    changed-nowhere c.args.block (with_answer_view c.args.challenged) c.args.exits.now.items
    (sym c.in_default.is ∙ c.place_of.ensures
    ∙ ap (λ (l : List ExitView). position (λ x. x.block == c.args.block) l) c.as_slice.ensures.value)
