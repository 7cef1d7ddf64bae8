use Rattle.std.proofs.Common.{◌∙◌, None, map, sym, ap}
use Rattle.trace_exhibits.specs.Lines.{read_of}
use Rattle.world_trace.specs.Traces.{TraceState}
use Rattle.world_trace.proofs.Telling.{nothing_shown, found-at}
use Rattle.world_trace.proofs.trace.Trace.exhibit.Goals as goal

pub returns-in-None : goal.returns-in-None
returns-in-None c dig tests rules events tells =
    nothing_shown dig rules.tag events
    (found-at dig rules.tag (map read_of events) c.args.self.now.found None
    (ap (λ (t : TraceState). t.found) (sym c.self.view_is) ∙ c.in-None.is) tells.finds)
