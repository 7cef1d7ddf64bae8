use Rattle.std.proofs.Common.{◌≡◌, ◌+◌, ◌++◌, List, length, sym, ap, ◌∙◌, subst, arith, length-append}
use Rattle.std.specs.List.{All}
use Rattle.line_forms.proofs.PrintLaws.{front_put, front_more}
use Rattle.schedule_text.specs.declared.line.Line.{Line}
use Rattle.schedule_text.specs.Grammar.{IsLine}
use Rattle.world_maker.specs.declared.round.Round.{Round}
use Rattle.world_maker.specs.Generator.{made_text, made_lines, text_of_lines, round_lines, round_at}
use Rattle.world_maker.proofs.MadeLines.{round-lines, few, round-is, made-few, made-more, text-more}
use Rattle.world_maker.proofs.generator.push_schedule.Goals as goal

pub loop-done-init : goal.loop-done-init
unfolding made_lines
loop-done-init c = record {
  text = c.in_ok-push_lines.ensures.ok
      ∙ ap (λ (lines : List Line). c.args.out.now.items ++ text_of_lines lines)
      (c.deref.ensures.value ∙ c.in_ok-first.ensures);
  lines = omega (arith, c.len-lines.ensures, ap length c.in_ok-first.ensures);
}

pub lines-requires-clause-before : goal.lines-requires-clause-before
lines-requires-clause-before c = omega (arith, made-few c.args.seed c.loop-done.done)

pub push_lines-requires-in-loop-done : goal.push_lines-requires-in-loop-done
push_lines-requires-in-loop-done c =
    subst (λ (lines : List Line). All IsLine lines)
    (sym (c.deref-in-loop-done.ensures.value ∙ c.in_ok-round_lines.ensures))
    (round-lines
    (record { number = c.loop-done.done + 1; word = c.word_of-word.result; lines_before = c.loop-done.lines })
    (omega (arith, made-few c.args.seed c.loop-done.done)) (omega arith))

pub returns-in_err-push_lines-2-clause-front : goal.returns-in_err-push_lines-2-clause-front
returns-in_err-push_lines-2-clause-front c =
    front_more c.args.out.now.items c.loop-done.out.items c.push_lines-in-loop-done.new.out.items
    (front_put c.args.out.now.items c.loop-done.out.items (made_text c.args.seed c.loop-done.done)
    c.loop-done.invariant.text)
    c.in_err-push_lines-2.ensures.front

pub overflow_add-lines : goal.overflow_add-lines
overflow_add-lines c =
    let round : Round =
    record { number = c.loop-done.done + 1; word = c.word_of-word.result; lines_before = c.loop-done.lines } in
    omega (
      arith,
      made-few c.args.seed c.loop-done.done,
      few round,
      c.len.ensures,
      ap length c.in_ok-round_lines.ensures,
    )

pub loop-done-preserved : goal.loop-done-preserved
loop-done-preserved c =
    let before = made_lines c.args.seed c.loop-done.done in
    let round : Round = round_at c.args.seed (c.loop-done.done + 1) (length before) in
    let lines : c.in_ok-round_lines.round_lines.items ≡ round_lines round =
    c.in_ok-round_lines.ensures
    ∙ round-is c.args.seed (c.loop-done.done + 1) c.word_of-word.result c.loop-done.lines before
    c.word_of-word.ensures c.loop-done.invariant.lines in
    record {
      text = text-more c.args.out.now.items c.loop-done.out.items c.push_lines-in-loop-done.new.out.items before
          (round_lines round) c.loop-done.invariant.text
          (c.in_ok-push_lines-2.ensures.ok
          ∙ ap (λ (more : List Line). c.loop-done.out.items ++ text_of_lines more)
          (c.deref-in-loop-done.ensures.value ∙ lines))
          ∙ ap (λ (all : List Line). c.args.out.now.items ++ text_of_lines all)
          (sym (made-more c.args.seed c.loop-done.done));
      lines = omega (
        arith,
        c.len.ensures,
        ap length lines,
        ap length (made-more c.args.seed c.loop-done.done),
        length-append before (round_lines round),
      );
    }
