use Rattle.std.proofs.Common.{sym, ◌∙◌, ap}
use Rattle.std.specs.List.{list_any}
use Rattle.node_rules.specs.Watcher.{who_is, notes_of, guards_of, guards_in, is_of}
use Rattle.node_journal.specs.Notes.{NodeState}
use Rattle.watcher_node.specs.Inside.{watched_in}
use Rattle.watcher_node.proofs.Order.{asked-keyed}
use Rattle.watcher_node.proofs.Steps.{any-map}
use Rattle.watcher_node.proofs.node.WatcherNode.has.Goals as goal

pub returns : goal.returns
returns g c =
    let inside = c.self.inside in
    let records = inside.notes.notes.records in
    let dig = g.H.Hash32.digest_of inside.hash in
    let tag = (who_is records).tag in
    c.contains_key.ensures
    ∙ sym (asked-keyed c.args.coin c.args.tip inside.guards.entries (watched_in tag (notes_of dig records))
    c.self.invariant.0.are_all)
    ∙ any-map tag c.args.coin c.args.tip (guards_of (notes_of dig records))
    ∙ ap (λ (s : NodeState _ _). list_any (is_of c.args.coin c.args.tip)
    (guards_in (g.H.Hash32.digest_of s.hash) s.notes.records)) c.self.view_is
