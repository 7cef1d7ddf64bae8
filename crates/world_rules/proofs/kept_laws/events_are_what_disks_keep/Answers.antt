use Rattle.world_rules.proofs.KeptRun.{wallets_keep, watchers_keep}
use Rattle.world_rules.proofs.kept_laws.events_are_what_disks_keep.Goals as goal

pub returns : goal.returns
returns c = record { wallets = wallets_keep; watchers = watchers_keep }
