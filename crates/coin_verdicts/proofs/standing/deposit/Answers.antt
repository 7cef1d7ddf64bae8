use Rattle.std.proofs.Common.{◌<◌, ℕ, List, length, take, reverse, refl, ap, sym, ◌∙◌, arith}
use Rattle.coin_verdicts.specs.declared.note.Note.{Note}
use Rattle.coin_verdicts.specs.Standings.{deposited_or, deposited_in}
use Rattle.coin_verdicts.proofs.Loops.{reversed-more}
use Rattle.coin_verdicts.proofs.standing.deposit.Goals as goal

pub loop-note-init : goal.loop-note-init
unfolding deposited_in
loop-note-init c = refl

pub loop-note-preserved : goal.loop-note-preserved
unfolding deposited_in
loop-note-preserved c =
    let within : c.loop-note.note-index < length c.args.notes.now = omega arith in
    c.deposit_after-found.ensures
    ∙ ap (λ (before : List ℕ). deposited_or c.args.owner.now before c.note-item.result.change) c.loop-note.invariant
    ∙ ap (λ (n : Note). deposited_or c.args.owner.now
    (deposited_in c.args.owner.now (reverse (take c.loop-note.note-index c.args.notes.now))) n.change) c.note-item.is
    ∙ sym (ap (deposited_in c.args.owner.now)
    (reversed-more c.args.notes.now c.loop-note.note-index c.note-item.result within))
