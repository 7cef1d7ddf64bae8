use Rattle.std.proofs.Common.{rules}
use Rattle.world_scene.proofs.Commands.{enter_does}
use Rattle.world_scene.proofs.scene.Scene.offer_of.Goals as goal

pub returns-clause-does : goal.returns-clause-does
returns-clause-does g c =
    enter_does (g.H.Hash32.digest_of c.args.self.now.hash) c.args.self.now c.args.node.now c.args.number c.in-Some.n
    c.in_ok-offer.offer (search rules) c.in_ok-offer.ensures
