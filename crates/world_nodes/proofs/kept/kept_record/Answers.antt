use Rattle.world_nodes.proofs.Words.{refl, Wallet, kept_half}
use Rattle.world_nodes.proofs.Ready.{leaves-journal}
use Rattle.world_nodes.proofs.kept.kept_record.Goals as goal

pub kept_on-requires-in-None : goal.kept_on-requires-in-None
kept_on-requires-in-None c =
    leaves-journal c.args.down.now (Wallet c.in-Wallet.notes c.in-Wallet.leaves c.in-Wallet.key)
    (kept_half c.in-Wallet.leaves) c.requires c.in-Wallet.is refl
