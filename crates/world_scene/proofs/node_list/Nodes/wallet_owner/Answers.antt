use Rattle.std.proofs.Common.{sym, ap, ◌∙◌}
use Rattle.std.specs.Prelude.{option_map}
use Rattle.world_scene.specs.declared.names.Roles.{Roles}
use Rattle.world_scene.specs.Names.{is_named_view, owner_in_view}
use Rattle.world_scene.proofs.Scans.{none_is_found}
use Rattle.world_scene.proofs.Views.{wallet_at}
use Rattle.world_scene.proofs.node_list.Nodes.wallet_owner.Goals as goal

pub returns-in-Some : goal.returns-in-Some
returns-in-Some g c =
    wallet_at c.args.self.now c.args.name.now c.in-Some.n c.at.result.now c.owner.result
    (sym c.place_of.ensures.place ∙ c.in-Some.is) c.at.ensures c.owner.ensures

pub returns-in-None : goal.returns-in-None
returns-in-None g c =
    ap (option_map owner_in_view)
    (sym (none_is_found (is_named_view Roles.Wallets c.args.name.now) c.args.self.now
    (sym c.place_of.ensures.place ∙ c.in-None.is)))
