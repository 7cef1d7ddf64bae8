use Rattle.std.proofs.Common.{◌∙◌, ◌++◌, sym, arith}
use Rattle.std.proofs.lemmas.Grind.{common_steps}
use Rattle.streamed_lines.proofs.StreamLaws.{does-long, halts-stop, answered-gathers, asked-halted, err-given}
use Rattle.streamed_lines.proofs.answering.answer_kept.Goals as goal

pub returns-then-is_too_long-clause-stops : goal.returns-then-is_too_long-clause-stops
returns-then-is_too_long-clause-stops g c =
    λ stream ran number.
    does-long (g.A.Answerer.rules c.args.answerer.now) _ _ stream c.if-is_empty.line.now _ (grind (arith, common_steps))
    number (sym c.is_too_long.ensures ∙ c.if-is_too_long.true)

pub returns-in_err-answer-clause-stops : goal.returns-in_err-answer-clause-stops
returns-in_err-answer-clause-stops g c =
    λ stream ran number.
    err-given _ _ _ c.from_residual-in_err-answer.ensures.1
    (halts-stop (g.A.Answerer.rules c.args.answerer.now) c.args.reading.now.number c.args.reading.now.start stream
    c.if-is_empty.line.now (c.args.reading.now.line.items ++ c.args.rest.now) c.in_err-answer.field-0.0
    (grind (arith, common_steps)) number (sym c.is_too_long.ensures ∙ c.if-is_too_long.false)
    (rw c.text_of.ensures at (c.in_err-answer.ensures.halts stream.run ran)))

pub returns-in_err-answer-clause-halted : goal.returns-in_err-answer-clause-halted
returns-in_err-answer-clause-halted g c =
    λ stream ran number.
    err-given _ _ _ c.from_residual-in_err-answer.ensures.1
    (asked-halted g.A.Answerer.ran g.A.Answerer.halted c.args.reading.now.number c.args.reading.now.start _ _ _ stream
    c.if-is_empty.line.now (c.args.reading.now.line.items ++ c.args.rest.now) c.in_err-answer.field-0.0
    (grind (arith, common_steps)) number (sym c.is_too_long.ensures ∙ c.if-is_too_long.false)
    (rw c.text_of.ensures at (c.in_err-answer.ensures.halted stream.run ran)))

pub returns-clause-told : goal.returns-clause-told
returns-clause-told g c =
    λ stream ran number.
    answered-gathers (g.A.Answerer.rules c.args.answerer.now) g.A.Answerer.ran c.args.reading.now.number
    c.args.reading.now.start stream c.if-is_empty.line.now _ _ _ _ (grind (arith, common_steps)) number
    (sym c.is_too_long.ensures ∙ c.if-is_too_long.false)
    (rw c.text_of.ensures at (c.in_ok-answer.ensures.answered stream.run ran))
