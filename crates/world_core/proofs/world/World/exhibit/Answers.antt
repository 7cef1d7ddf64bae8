use Rattle.std.proofs.Common.{sym}
use Rattle.world_core.proofs.Readings.{reads-exhibit}
use Rattle.world_core.proofs.world.World.exhibit.Goals as goal

pub returns : goal.returns
returns g c lines run after ran =
    reads-exhibit (g.H.Hash32.digest_of c.args.self.now.running.hash) lines c.args.self.now.running after run ran
    c.trace.result.now c.exhibit.result (sym c.trace.ensures) c.exhibit.ensures
