use Rattle.std.proofs.Common.{sym}
use Rattle.world_core.proofs.Readings.{reads-verdicts}
use Rattle.world_core.proofs.world.World.verdicts.Goals as goal

pub returns : goal.returns
returns g c lines run after ran =
    reads-verdicts (g.H.Hash32.digest_of c.args.self.now.running.hash) lines c.args.self.now.running after run ran
    c.trace.result.now c.verdicts.result (sym c.trace.ensures) c.verdicts.ensures
