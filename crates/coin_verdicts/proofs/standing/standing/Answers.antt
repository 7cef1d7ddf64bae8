use Rattle.std.proofs.Common.{◌≡◌, ◌<◌, length, take, reverse, ap, sym, ◌∙◌, arith}
use Rattle.coin_verdicts.specs.declared.note.Note.{Note}
use Rattle.coin_verdicts.specs.declared.note.Standing.{Standing}
use Rattle.coin_verdicts.specs.Standings.{with_note, standing_in}
use Rattle.coin_verdicts.proofs.Loops.{reversed-more}
use Rattle.coin_verdicts.proofs.standing.standing.Goals as goal

pub loop-note-init : goal.loop-note-init
unfolding standing_in
loop-note-init c = record {
  is = c.no_notes-standing.ensures;
  few = let none : c.no_notes-standing.result.sent ≡ 0 = ap (λ (s : Standing). s.sent) c.no_notes-standing.ensures in
      omega arith;
}

pub loop-note-preserved : goal.loop-note-preserved
unfolding standing_in
loop-note-preserved c =
    let within : c.loop-note.note-index < length c.args.notes.now = omega arith in
    record {
      is =
          c.with_note-standing.ensures.value
          ∙ ap (λ (s : Standing). with_note c.args.holder.now c.args.tip s c.note-item.result) c.loop-note.invariant.is
          ∙ ap (λ (n : Note). with_note c.args.holder.now c.args.tip
          (standing_in c.args.holder.now c.args.tip (reverse (take c.loop-note.note-index c.args.notes.now))) n)
          c.note-item.is
          ∙ sym (ap (standing_in c.args.holder.now c.args.tip)
          (reversed-more c.args.notes.now c.loop-note.note-index c.note-item.result within));
      few = omega (arith, c.with_note-standing.ensures.sent, c.loop-note.invariant.few);
    }
