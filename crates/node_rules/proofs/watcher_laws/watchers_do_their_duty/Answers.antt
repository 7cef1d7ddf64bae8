use Rattle.node_rules.proofs.WatcherRole.{watchers_do_their_duty}
use Rattle.node_rules.proofs.watcher_laws.watchers_do_their_duty.Goals as goal

pub returns : goal.returns
returns c = watchers_do_their_duty
