use Rattle.node_deeds.proofs.WatcherOrderLaws.{orders_keep_the_role}
use Rattle.node_deeds.proofs.watcher.laws.watcher_orders_keep_the_role.Goals as goal

pub returns : goal.returns
returns c = orders_keep_the_role
