use Rattle.node_rules.specs.Watcher.{who_is}
use Rattle.watcher_node.proofs.Notes.{guard-spells}
use Rattle.watcher_node.proofs.node.WatcherNode.take_guard.Goals as goal

pub note_guard-requires-clause-spells : goal.note_guard-requires-clause-spells
note_guard-requires-clause-spells g c =
    guard-spells (g.H.Hash32.digest_of c.args.self.now.hash) (who_is c.args.self.now.notes.records).tag c.args.links
    c.args.body c.tip-tip.result c.requires.read c.requires.note c.tip-tip.ensures
