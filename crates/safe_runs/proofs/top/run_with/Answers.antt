use Rattle.std.proofs.Common.{true, subst}
use Rattle.streamed_lines.specs.Outside.{ReadsToFault}
use Rattle.safe_runs.specs.Complete.{CompletesBy}
use Rattle.safe_runs.specs.Runs.{Outside}
use Rattle.safe_runs.proofs.CompleteLaws.{runs-complete}
use Rattle.safe_runs.proofs.top.run_with.Goals as goal

pub returns-clause-complete : goal.returns-clause-complete
returns-clause-complete g c =
    let dig = g.H.Hash32.digest_of c.args.h.now in
    let outside : Outside = record {
      left = g.S.Source.left c.args.source.now;
      later = g.S.Source.left c.run_role.new.source;
      taken = g.K.Sink.taken c.args.sink.now;
      after = g.K.Sink.taken c.run_role.new.sink;
    } in
    subst (λ role. CompletesBy g.D.Disk.told dig outside c.run_role.result.status role c.args.notes c.args.leaves)
    c.role_of.ensures
    (runs-complete g.D.Disk.told dig outside
    (ReadsToFault (g.S.Source.faults c.args.source.now) (g.S.Source.faults c.run_role.new.source)
    (g.S.Source.failed_last c.run_role.new.source) true)
    c.run_role.result.status c.role_of.result c.args.notes c.args.leaves c.run_role.ensures.runs)
