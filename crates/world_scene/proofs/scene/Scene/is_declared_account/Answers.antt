use Rattle.std.proofs.Common.{sym, ap, ◌∙◌, ◌||◌}
use Rattle.std.specs.List.{list_any}
use Rattle.world_scene.specs.Names.{is_view_with, is_rogue_with}
use Rattle.world_scene.proofs.Views.{declared_account_view}
use Rattle.world_scene.proofs.scene.Scene.is_declared_account.Goals as goal

pub returns-then-is_there : goal.returns-then-is_there
returns-then-is_there g c =
    c.if-is_there.true
    ∙ ap (λ b. b || list_any (is_rogue_with c.args.account) c.args.self.now.rogues)
    (sym c.if-is_there.true ∙ c.is_there.ensures
    ∙ ap (list_any (is_view_with c.args.account)) c.as_slice.ensures
    ∙ ap (λ scene. list_any (is_view_with c.args.account) scene.nodes) c.self.view_is)
    ∙ sym (declared_account_view c.args.self.now c.args.account)

pub returns-else-is_there : goal.returns-else-is_there
returns-else-is_there g c =
    c.has_account.ensures
    ∙ ap (λ scene. list_any (is_rogue_with c.args.account) scene.rogues) c.self.view_is
    ∙ ap (λ b. b || list_any (is_rogue_with c.args.account) c.args.self.now.rogues)
    (sym c.if-is_there.false ∙ c.is_there.ensures
    ∙ ap (list_any (is_view_with c.args.account)) c.as_slice.ensures
    ∙ ap (λ scene. list_any (is_view_with c.args.account) scene.nodes) c.self.view_is)
    ∙ sym (declared_account_view c.args.self.now c.args.account)
