use Rattle.std.proofs.Common.{sym, ap, ◌∙◌}
use Rattle.std.specs.List.{list_any}
use Rattle.world_scene.specs.Names.{has_wallet_seed}
use Rattle.world_scene.proofs.Views.{wallet_seed_view}
use Rattle.world_scene.proofs.scene.Scene.is_wallet_seed.Goals as goal

pub returns : goal.returns
returns g c =
    c.is_there.ensures ∙ ap (list_any (has_wallet_seed c.args.seed.now)) c.as_slice.ensures
    ∙ ap (λ scene. list_any (has_wallet_seed c.args.seed.now) scene.nodes) c.self.view_is
    ∙ sym (wallet_seed_view c.args.self.now c.args.seed.now)
