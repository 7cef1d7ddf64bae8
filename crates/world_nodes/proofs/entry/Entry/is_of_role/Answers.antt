use Rattle.world_nodes.proofs.ReadyAt.{role-at}
use Rattle.world_nodes.proofs.entry.Entry.is_of_role.Goals as goal

pub returns : goal.returns
returns g c = let e = c.self.inside in
    role-at g.H.Hash32.digest_of e.hash e.name e.account e.member e.offers.items c.args.self.now e.site c.self.view_is
    c.self.invariant c.requires c.is_whole.ensures
