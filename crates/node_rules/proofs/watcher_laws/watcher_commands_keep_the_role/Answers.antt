use Rattle.node_rules.proofs.WatcherRole.{commands_keep_the_role, commands_add_their_notes}
use Rattle.node_rules.proofs.watcher_laws.watcher_commands_keep_the_role.Goals as goal

pub returns : goal.returns
returns c = record { kinds = commands_keep_the_role; notes = commands_add_their_notes }
