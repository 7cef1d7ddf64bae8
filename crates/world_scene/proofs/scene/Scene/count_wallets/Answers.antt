use Rattle.std.proofs.Common.{ap, ◌∙◌, length}
use Rattle.world_scene.specs.Indexed.{all_declared, wallet_accounts}
use Rattle.world_scene.proofs.Index.{wallets_counted}
use Rattle.world_scene.proofs.scene.Scene.count_wallets.Goals as goal

pub returns : goal.returns
returns g c =
    c.count_wallets.ensures ∙ ap (λ scene. length (wallet_accounts (all_declared scene.nodes))) c.self.view_is
    ∙ wallets_counted c.args.self.now
