use Rattle.std.proofs.Common.{◌≡◌, ◌∙◌, ◌++◌, sym}
use Rattle.streamed_lines.specs.Reading.{Reads}
use Rattle.streamed_lines.proofs.LineLaws.{plain-append, plain-none}
use Rattle.streamed_lines.proofs.StreamLaws.{if-err, err-given}
use Rattle.streamed_lines.proofs.ReadLaws.{way-line, way-kept, way-stops, way-ends, on-ok}
use Rattle.streamed_lines.proofs.stream.answer_taken.Goals as goal

pub keep-requires-clause-plain : goal.keep-requires-clause-plain
keep-requires-clause-plain g c =
    plain-append c.loop-place.reading.line.items c.loop-place.rest.now c.loop-place.invariant.way.plain
    (plain-none c.loop-place.rest.now (sym c.feed_place.ensures.place ∙ c.in_default.is))

pub loop-place-preserved : goal.loop-place-preserved
loop-place-preserved g c = record {
  way =
      rw (c.split_at.ensures.back, c.in_ok-answer_kept.ensures.none_left)
      (way-line _ _ _ _ _ _ _ _ _ _ _ _ _ _ c.loop-place.invariant.way c.in-Some.place
      (sym c.feed_place.ensures.place ∙ c.in-Some.is) c.in-Some.ensures.within c.requires.bound
      c.answer_kept.new.text.items c.answer_kept.new.reading.number c.answer_kept.new.reading.start
      c.answer_kept.new.answerer (g.A.Answerer.rules c.loop-place.answerer) c.loop-place.invariant.rules
      c.in_ok-answer_kept.ensures.number c.in_ok-answer_kept.ensures.lines
      (rw c.split_at.ensures.front at c.in_ok-answer_kept.ensures.start)
      c.in_ok-answer_kept.ensures.within
      (rw c.split_at.ensures.front at c.in_ok-answer_kept.ensures.told));
  rules = c.in_ok-answer_kept.ensures.rules ∙ c.loop-place.invariant.rules;
  ready = c.in_ok-answer_kept.ensures.ready;
}

pub returns-in_err-answer_kept-clause-halts : goal.returns-in_err-answer_kept-clause-halts
returns-in_err-answer_kept-clause-halts g c =
    λ first bytes put reads.
    err-given _ _ _ c.from_residual.ensures.1
    (way-stops _ _ _ _ _ _ _ _ _ _ _ _ _ _ c.loop-place.invariant.way g.A.Answerer.halted first bytes put reads
    c.in-Some.place (sym c.feed_place.ensures.place ∙ c.in-Some.is) c.in-Some.ensures.within c.requires.bound
    _ _ _ c.in_err-answer_kept.field-0.0 (g.A.Answerer.rules c.loop-place.answerer) c.loop-place.invariant.rules
    c.in_err-answer_kept.ensures.untold c.in_err-answer_kept.ensures.same_number
    (rw c.split_at.ensures.front at c.in_err-answer_kept.ensures.stops)
    (rw c.split_at.ensures.front at c.in_err-answer_kept.ensures.halted))

pub returns-clause-reads : goal.returns-clause-reads
returns-clause-reads g c =
    λ first bytes put reads.
    on-ok (c.keep.new.reading.line.items ≡ c.loop-place.reading.line.items ++ c.loop-place.rest.now)
    (Reads (g.A.Answerer.rules c.args.answerer.now) first g.A.Answerer.ran (bytes ++ c.args.taken.now) put
    c.loop-place.text.items c.keep.new.reading.line.items c.keep.new.reading.number c.keep.new.reading.start
    c.loop-place.answerer) _
    (λ is. rw (is, c.keep.ensures.number, c.keep.ensures.start)
    (way-kept _ _ _ _ _ _ _ _ _ _ _ _ _ _ c.loop-place.invariant.way first bytes put reads))
    c.keep.ensures.line

pub returns-clause-halts : goal.returns-clause-halts
returns-clause-halts g c =
    λ first bytes put reads.
    if-err _ _ _
    (λ halt at. way-ends _ _ _ _ _ _ _ _ _ _ _ _ _ _ c.loop-place.invariant.way g.A.Answerer.halted first bytes put
    reads c.requires.some
    (plain-append c.loop-place.reading.line.items c.loop-place.rest.now c.loop-place.invariant.way.plain
    (plain-none c.loop-place.rest.now (sym c.feed_place.ensures.place ∙ c.in_default.is)))
    _ halt c.keep.ensures.number at)
    c.keep.ensures.stops
