use Rattle.std.proofs.Common.{◌≡◌, true, Some, sym, ◌∙◌, ap, subst}
use Rattle.std.specs.Option.{option_map}
use Rattle.node_journal.specs.Role.{are_of, may_follow}
use Rattle.node_rules.specs.Watcher.{watcher_kinds, who_is, note_in}
use Rattle.watcher_node.specs.declared.role.WatcherRole.{WatcherRole}
use Rattle.watcher_node.specs.declared.watched.Change.TheVariants.{Releases}
use Rattle.node_journal.specs.Notes.{NodeState}
use Rattle.watcher_node.specs.Inside.{change_of}
use Rattle.watcher_node.proofs.Kept.{kept-more, change-follows}
use Rattle.watcher_node.proofs.node.WatcherNode.note_release.Goals as goal

pub add-requires-clause-kind : goal.add-requires-clause-kind
add-requires-clause-kind g c =
    let inside = c.self.inside in
    let records = inside.notes.notes.records in
    let dig = g.H.Hash32.digest_of inside.hash in
    let spells = subst (λ (s : NodeState _ _). Some (Releases c.args.coin c.args.tip)
    ≡ option_map (change_of (who_is s.notes.records).tag)
    (note_in (g.H.Hash32.digest_of s.hash) (who_is s.notes.records).tag c.args.body)) (sym c.self.view_is)
    c.requires.spells in
    let role : are_of (watcher_kinds dig) records ≡ true =
    ap (λ (r : WatcherRole _). are_of (watcher_kinds (g.H.Hash32.digest_of r.hash)) records) (sym c.self.invariant.1)
    ∙ c.is_whole.ensures.role in
    ap (λ (r : WatcherRole _). may_follow (watcher_kinds (g.H.Hash32.digest_of r.hash)) records c.args.body)
    c.self.invariant.1
    ∙ change-follows dig records c.args.body (Releases c.args.coin c.args.tip) role spells

pub invariant_of-self : goal.invariant_of-self
invariant_of-self g c =
    let inside = c.self.inside in
    let records = inside.notes.notes.records in
    let dig = g.H.Hash32.digest_of inside.hash in
    let spells = subst (λ (s : NodeState _ _). Some (Releases c.args.coin c.args.tip)
    ≡ option_map (change_of (who_is s.notes.records).tag)
    (note_in (g.H.Hash32.digest_of s.hash) (who_is s.notes.records).tag c.args.body)) (sym c.self.view_is)
    c.requires.spells in
    let role : are_of (watcher_kinds dig) records ≡ true =
    ap (λ (r : WatcherRole _). are_of (watcher_kinds (g.H.Hash32.digest_of r.hash)) records) (sym c.self.invariant.1)
    ∙ c.is_whole.ensures.role in (
      kept-more dig records c.args.body c.add.new.self.notes.records inside.tag inside.account inside.guards.entries
          c.remove_guard.new.all.entries (Releases c.args.coin c.args.tip) role c.in-Ok.ensures.did.records spells
          (λ guards same are. c.remove_guard.ensures guards are) c.self.invariant.0,
      c.add.ensures.role ∙ c.self.invariant.1,
    )
