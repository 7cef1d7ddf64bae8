use Rattle.world_nodes.proofs.Words.{refl, Wallet, kept_half}
use Rattle.world_nodes.proofs.Ready.{leaves-journal}
use Rattle.world_nodes.proofs.kept.count_records.Goals as goal

pub count_on-requires-in-Wallet : goal.count_on-requires-in-Wallet
count_on-requires-in-Wallet c =
    leaves-journal c.args.down.now (Wallet c.in-Wallet.notes c.in-Wallet.leaves c.in-Wallet.key)
    (kept_half c.in-Wallet.leaves) c.requires c.in-Wallet.is refl
