use Rattle.std.proofs.Common.{◌≡◌, ◌+◌, ◌-◌, length}
use Rattle.streamed_lines.specs.declared.TheConstants.{MOST_INPUT_BYTES}
use Rattle.streamed_lines.proofs.GoingLaws.{Going}
use Rattle.streamed_lines.proofs.stream.answer_lines.Given as goal

abbrev pub invariant-loop-answerer : goal.invariant-loop-answerer
invariant-loop-answerer g l = record {
  going :
      Going (g.A.Answerer.rules l.fn.answerer) g.first g.A.Answerer.ran (g.S.Source.left l.fn.source)
      (g.S.Source.left l.source) (g.K.Sink.taken l.fn.sink) (g.K.Sink.taken l.sink) l.text.items
      l.reading.line.items l.reading.number l.reading.start l.answerer;
  rules : g.A.Answerer.rules l.answerer ≡ g.A.Answerer.rules l.fn.answerer;
  ready : g.A.Answerer.ready l.answerer;
  unread : g.S.Source.faults l.source ≡ g.S.Source.faults l.fn.source;
  unended : g.S.Source.ends l.source ≡ g.S.Source.ends l.fn.source;
  unsunk : g.K.Sink.faults l.sink ≡ g.K.Sink.faults l.fn.sink;
}

abbrev pub decreases-loop-answerer : goal.decreases-loop-answerer
decreases-loop-answerer g l = MOST_INPUT_BYTES - (l.reading.start + length l.reading.line.items)
