use Rattle.watcher_node.proofs.Order.{removed-keyed}
use Rattle.safe_runs.proofs.guards.remove_guard.Goals as goal

pub returns : goal.returns
returns c guards are =
    removed-keyed c.args.coin c.args.tip guards c.args.all.now.entries c.remove.new.self.entries c.len.ensures.ordered
    are c.remove.ensures.entries
