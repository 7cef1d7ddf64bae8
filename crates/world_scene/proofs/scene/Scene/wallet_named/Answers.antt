use Rattle.std.proofs.Common.{ap, ◌∙◌, find}
use Rattle.std.specs.Prelude.{option_map, is_some}
use Rattle.world_scene.specs.Names.{is_named_view, owner_in_view}
use Rattle.world_scene.specs.declared.names.Roles.{Roles}
use Rattle.world_scene.proofs.Views.{wallet_is_declared, owner_is_named}
use Rattle.world_scene.proofs.scene.Scene.wallet_named.Goals as goal

pub returns-clause-declared : goal.returns-clause-declared
returns-clause-declared g c =
    let name = c.args.name.now in
    ap is_some (c.wallet_owner.ensures
    ∙ ap (λ scene. option_map owner_in_view (find (is_named_view Roles.Wallets name) scene.nodes)) c.self.view_is)
    ∙ wallet_is_declared c.args.self.now name

pub returns-clause-owner : goal.returns-clause-owner
returns-clause-owner g c =
    let name = c.args.name.now in
    owner_is_named c.args.self.now name c.wallet_owner.result (c.wallet_owner.ensures
    ∙ ap (λ scene. option_map owner_in_view (find (is_named_view Roles.Wallets name) scene.nodes)) c.self.view_is)
