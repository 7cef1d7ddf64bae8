use Rattle.node_deeds.proofs.WatcherOrderLaws.{orders_add_no_leaf}
use Rattle.node_deeds.proofs.watcher.laws.watcher_orders_add_no_leaf.Goals as goal

pub returns : goal.returns
returns c = orders_add_no_leaf
