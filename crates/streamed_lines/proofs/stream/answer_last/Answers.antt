use Rattle.std.proofs.Common.{◌∙◌, true, sym, arith}
use Rattle.streamed_lines.proofs.StopLaws.{last-stops, last-answered, over-answered, empty-is, some-is, halts-end, halts-break}
use Rattle.streamed_lines.proofs.stream.answer_last.Goals as goal

pub returns-then-is_empty-clause-ends : goal.returns-then-is_empty-clause-ends
returns-then-is_empty-clause-ends g c =
    λ first bytes put reads.
    over-answered _ _ g.A.Answerer.ran g.A.Answerer.halted _ _ _ _ _ _ _ reads _
    (empty-is c.args.reading.now.line.items _ (omega arith) (sym c.is_empty.ensures ∙ c.if-is_empty.true))
    (c.end_of_lines.ensures.ends reads.stream reads.ran reads.number)

pub returns-in-Ok-clause-ends : goal.returns-in-Ok-clause-ends
returns-in-Ok-clause-ends g c =
    λ first bytes put reads.
    last-answered _ _ g.A.Answerer.ran g.A.Answerer.halted _ _ _ _ _ _ _ reads _ _ _ _ _ c.requires.kept.plain
    (some-is c.args.reading.now.line.items _ (omega arith) (sym c.is_empty.ensures ∙ c.if-is_empty.false))
    (c.in-Ok.ensures.told reads.stream reads.ran reads.number)
    c.in-Ok.ensures.number c.in-Ok.ensures.rules c.end_of_lines-in-Ok.ensures.ends

pub returns-in-Err-clause-ends : goal.returns-in-Err-clause-ends
returns-in-Err-clause-ends g c =
    λ first bytes put reads.
    halts-end _ _ g.A.Answerer.ran g.A.Answerer.halted 0 true bytes put _ _ _ c.in-Err.halt _ c.outcome.ensures
    (last-stops _ _ g.A.Answerer.ran g.A.Answerer.halted _ _ _ _ _ _ _ reads _ _ _ c.in-Err.halt
    c.in-Err.ensures.untold c.in-Err.ensures.same_number c.requires.kept
    (some-is c.args.reading.now.line.items _ (omega arith) (sym c.is_empty.ensures ∙ c.if-is_empty.false))
    (c.in-Err.ensures.stops reads.stream reads.ran reads.number)
    (c.in-Err.ensures.halted reads.stream reads.ran reads.number))

pub returns-in-Err-clause-breaks : goal.returns-in-Err-clause-breaks
returns-in-Err-clause-breaks g c =
    λ first bytes put reads.
    halts-break _ _ g.A.Answerer.ran g.A.Answerer.halted 0 true bytes put _ _ _ c.in-Err.halt _ c.outcome.ensures
    (last-stops _ _ g.A.Answerer.ran g.A.Answerer.halted _ _ _ _ _ _ _ reads _ _ _ c.in-Err.halt
    c.in-Err.ensures.untold c.in-Err.ensures.same_number c.requires.kept
    (some-is c.args.reading.now.line.items _ (omega arith) (sym c.is_empty.ensures ∙ c.if-is_empty.false))
    (c.in-Err.ensures.stops reads.stream reads.ran reads.number)
    (c.in-Err.ensures.halted reads.stream reads.ran reads.number))
