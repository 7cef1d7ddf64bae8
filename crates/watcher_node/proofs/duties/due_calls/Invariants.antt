use Rattle.std.proofs.Common.{◌≡◌, ◌≢◌, [], ◌++◌}
use Rattle.std.specs.List.{flat_map}
use Rattle.std.specs.BTreeMap.{values}
use Rattle.node_rules.specs.KeptCoins.{due_for_coin}
use Rattle.watcher_node.proofs.duties.due_calls.Given as goal

abbrev pub invariant-loop-watched : goal.invariant-loop-watched
invariant-loop-watched l = record {
  said :
      l.calls.items ++ flat_map (due_for_coin l.log.log l.account) l.watched-iterator
      ≡ flat_map (due_for_coin l.log.log l.account) (values l.guards);
  some : l.watched-iterator ≢ [] → values l.guards ≢ [];
}
