use Rattle.std.proofs.Common.{sym, ap, ◌∙◌, find}
use Rattle.std.specs.Prelude.{option_map}
use Rattle.std.specs.Option.{option_or}
use Rattle.std.proofs.lemmas.Result.{IfOk-weaker}
use Rattle.world_rules.specs.World.{owner_of_rogue}
use Rattle.world_scene.specs.Names.{is_named_view, is_named_rogue, owner_in_view}
use Rattle.world_scene.specs.declared.names.Roles.{Roles}
use Rattle.world_scene.proofs.Views.{owner_named_view}
use Rattle.world_scene.proofs.scene.Scene.owner_named.Goals as goal

pub returns-in-Some : goal.returns-in-Some
returns-in-Some g c =
    let name = c.args.name.now in
    ap (λ o. option_or o (option_map owner_of_rogue (find (is_named_rogue name) c.args.self.now.rogues)))
    (sym c.in-Some.is ∙ c.wallet_owner.ensures
    ∙ ap (λ scene. option_map owner_in_view (find (is_named_view Roles.Wallets name) scene.nodes)) c.self.view_is)
    ∙ sym (owner_named_view c.args.self.now name)

pub returns-in-None : goal.returns-in-None
returns-in-None g c =
    let name = c.args.name.now in
    IfOk-weaker c.owner_named.result _ _
    (λ owner is. is
    ∙ ap (λ scene. option_map owner_of_rogue (find (is_named_rogue name) scene.rogues)) c.self.view_is
    ∙ ap (λ o. option_or o (option_map owner_of_rogue (find (is_named_rogue name) c.args.self.now.rogues)))
    (sym c.in-None.is ∙ c.wallet_owner.ensures
    ∙ ap (λ scene. option_map owner_in_view (find (is_named_view Roles.Wallets name) scene.nodes)) c.self.view_is)
    ∙ sym (owner_named_view c.args.self.now name))
    c.owner_named.ensures
