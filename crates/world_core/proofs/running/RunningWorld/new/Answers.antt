use Rattle.std.proofs.Common.{[], None, sym, subst}
use Rattle.world_trace.specs.Traces.{TraceState}
use Rattle.world_core.specs.Worlds.{IsAfter}
use Rattle.world_core.proofs.LongerRuns.{after_none}
use Rattle.world_core.proofs.running.RunningWorld.new.Goals as goal

pub returns-clause-after : goal.returns-clause-after
returns-clause-after g c =
    let dig = g.H.Hash32.digest_of c.args.hash in
    subst (λ (t : TraceState).
    IsAfter dig [] (record { hash = c.args.hash; scene = None; mail_size = 0; trace = t; refused = 0 }))
    (sym c.new.ensures) (after_none dig c.args.hash)
