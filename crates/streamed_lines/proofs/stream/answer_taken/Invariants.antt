use Rattle.std.proofs.Common.{◌≡◌, length}
use Rattle.streamed_lines.proofs.ReadLaws.{OnTheWay}
use Rattle.streamed_lines.proofs.stream.answer_taken.Given as goal

abbrev pub invariant-loop-place : goal.invariant-loop-place
invariant-loop-place g l = record {
  way :
      OnTheWay (g.A.Answerer.rules l.fn.answerer) g.A.Answerer.ran l.taken l.rest l.fn.text.items
      l.fn.reading.line.items l.fn.reading.number l.fn.reading.start l.fn.answerer l.text.items l.reading.line.items
      l.reading.number l.reading.start l.answerer;
  rules : g.A.Answerer.rules l.answerer ≡ g.A.Answerer.rules l.fn.answerer;
  ready : g.A.Answerer.ready l.answerer;
}

abbrev pub decreases-loop-place : goal.decreases-loop-place
decreases-loop-place g l = length l.rest
