use Rattle.std.proofs.Common.{◌<◌, ◌^◌, rules}
use Rattle.node_rules.specs.Watcher.{who_is}
use Rattle.watcher_node.proofs.Notes.{release-spells}
use Rattle.watcher_node.proofs.node.WatcherNode.release.Goals as goal

pub note_release-requires-clause-spells : goal.note_release-requires-clause-spells
note_release-requires-clause-spells g c =
    let coin_fits : c.args.coin < 2 ^ 64 = search (rules, c.ranges.coin) in
    let tip_fits : c.args.tip < 2 ^ 64 = search (rules, c.ranges.tip) in
    release-spells (g.H.Hash32.digest_of c.args.self.now.hash) (who_is c.args.self.now.notes.records).tag c.args.coin
    c.args.tip c.in-Ok.body coin_fits tip_fits c.in-Ok.ensures.text
