use Rattle.std.proofs.Common.{sym, ap, ◌∙◌}
use Rattle.std.specs.List.{list_any}
use Rattle.world_scene.specs.Names.{has_wallet_key}
use Rattle.world_scene.proofs.Views.{wallet_key_view}
use Rattle.world_scene.proofs.scene.Scene.is_wallet_key.Goals as goal

pub returns : goal.returns
returns g c =
    c.is_there.ensures ∙ ap (list_any (has_wallet_key c.args.key.now)) c.as_slice.ensures
    ∙ ap (λ scene. list_any (has_wallet_key c.args.key.now) scene.nodes) c.self.view_is
    ∙ sym (wallet_key_view c.args.self.now c.args.key.now)
