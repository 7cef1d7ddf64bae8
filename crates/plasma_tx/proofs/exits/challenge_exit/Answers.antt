use Rattle.plasma_tx.proofs.Words.{◌==◌, ◌++◌, ◌∷◌, [], Bool, if◌then◌else◌, List, position, sym, ap, ◌∙◌, ExitView, with_challenge_view}
use Rattle.plasma_tx.proofs.States.{changed-place, changed-nowhere}
use Rattle.plasma_tx.proofs.exits.challenge_exit.Goals as goal

pub returns-in_default-clause-ok : goal.returns-in_default-clause-ok
returns-in_default-clause-ok c =
    changed-nowhere c.args.block (with_challenge_view c.args.challenge) c.args.exits.now.items
    (sym c.in_default.is ∙ c.place_of.ensures
    ∙ ap (λ (l : List ExitView). position (λ x. x.block == c.args.block) l) c.as_slice.ensures.value)

pub returns-then-has-clause-ok : goal.returns-then-has-clause-ok
returns-then-has-clause-ok c =
    let item : ExitView = c.index_mut-exit.result.now in
    changed-place c.args.block
    (with_challenge_view c.args.challenge) c.args.exits.now.items c.in-Some.place item _ c.requires
    (sym c.in-Some.is ∙ c.place_of.ensures
    ∙ ap (λ (l : List ExitView). position (λ x. x.block == c.args.block) l) c.as_slice.ensures.value)
    c.index_mut-exit.ensures.value
    (ap (λ (b : Bool). if b then item else record item { challenges = item.challenges ++ c.args.challenge ∷ [] })
    (sym c.if-has.true ∙ c.has.ensures))

pub returns-clause-ok : goal.returns-clause-ok
returns-clause-ok c =
    let item : ExitView = c.index_mut-exit.result.now in
    changed-place c.args.block
    (with_challenge_view c.args.challenge) c.args.exits.now.items c.in-Some.place item _ c.requires
    (sym c.in-Some.is ∙ c.place_of.ensures
    ∙ ap (λ (l : List ExitView). position (λ x. x.block == c.args.block) l) c.as_slice.ensures.value)
    c.index_mut-exit.ensures.value
    ((λ i. record item { challenges = c.in_ok-push.ensures.ok i })
    ∙ ap (λ (b : Bool). if b then item else record item { challenges = item.challenges ++ c.args.challenge ∷ [] })
    (sym c.if-has.false ∙ c.has.ensures))
