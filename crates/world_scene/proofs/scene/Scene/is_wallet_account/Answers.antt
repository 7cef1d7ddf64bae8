use Rattle.std.proofs.Common.{ap, ◌∙◌}
use Rattle.std.specs.List.{list_any}
use Rattle.world_scene.specs.Names.{is_same_account}
use Rattle.world_scene.specs.Indexed.{all_declared, wallet_accounts}
use Rattle.world_scene.proofs.Index.{account_listed}
use Rattle.world_scene.proofs.scene.Scene.is_wallet_account.Goals as goal

pub returns : goal.returns
returns g c =
    c.is_wallet_account.ensures
    ∙ ap (λ scene. list_any (is_same_account c.args.account) (wallet_accounts (all_declared scene.nodes)))
    c.self.view_is
    ∙ account_listed c.args.self.now c.args.account
