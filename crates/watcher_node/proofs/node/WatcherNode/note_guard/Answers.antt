use Rattle.std.proofs.Common.{◌≡◌, ℕ, true, false, List, Some, sym, ◌∙◌, ap, subst}
use Rattle.std.specs.List.{list_any}
use Rattle.std.specs.Option.{option_map}
use Rattle.std.specs.BTreeMap.{is_at}
use Rattle.std.specs.Map.{remove_entry}
use Rattle.node_journal.specs.Role.{are_of, may_follow}
use Rattle.node_rules.specs.Watcher.{watcher_kinds, who_is, notes_of, guards_of, guards_in, note_in, is_of}
use Rattle.watcher_node.specs.declared.role.WatcherRole.{WatcherRole}
use Rattle.watcher_node.specs.declared.watched.Change.TheVariants.{Guards}
use Rattle.node_journal.specs.Notes.{NodeState}
use Rattle.watcher_node.specs.Inside.{change_of, watched_in, is_watched_at, by_place, IsKept}
use Rattle.watcher_node.proofs.Order.{asked-keyed, put-keyed, put-undone}
use Rattle.watcher_node.proofs.Steps.{any-map}
use Rattle.watcher_node.proofs.Kept.{kept-more, change-follows, stopped-stays}
use Rattle.watcher_node.proofs.node.WatcherNode.note_guard.Goals as goal

pub add-requires-clause-kind : goal.add-requires-clause-kind
add-requires-clause-kind g c =
    let inside = c.self.inside in
    let records = inside.notes.notes.records in
    let dig = g.H.Hash32.digest_of inside.hash in
    let spells = subst (λ (s : NodeState _ _). Some (Guards c.args.watched)
    ≡ option_map (change_of (who_is s.notes.records).tag)
    (note_in (g.H.Hash32.digest_of s.hash) (who_is s.notes.records).tag c.args.body)) (sym c.self.view_is)
    c.requires.spells in
    let role : are_of (watcher_kinds dig) records ≡ true =
    ap (λ (r : WatcherRole _). are_of (watcher_kinds (g.H.Hash32.digest_of r.hash)) records) (sym c.self.invariant.1)
    ∙ c.is_whole.ensures.role in
    ap (λ (r : WatcherRole _). may_follow (watcher_kinds (g.H.Hash32.digest_of r.hash)) records c.args.body)
    c.self.invariant.1
    ∙ change-follows dig records c.args.body (Guards c.args.watched) role spells

pub invariant_of-self-in-Ok : goal.invariant_of-self-in-Ok
invariant_of-self-in-Ok g c =
    let inside = c.self.inside in
    let records = inside.notes.notes.records in
    let dig = g.H.Hash32.digest_of inside.hash in
    let spells = subst (λ (s : NodeState _ _). Some (Guards c.args.watched)
    ≡ option_map (change_of (who_is s.notes.records).tag)
    (note_in (g.H.Hash32.digest_of s.hash) (who_is s.notes.records).tag c.args.body)) (sym c.self.view_is)
    c.requires.spells in
    let role : are_of (watcher_kinds dig) records ≡ true =
    ap (λ (r : WatcherRole _). are_of (watcher_kinds (g.H.Hash32.digest_of r.hash)) records) (sym c.self.invariant.1)
    ∙ c.is_whole.ensures.role in
    let tag = (who_is records).tag in
    let coin = c.args.watched.coin in
    let tip = c.args.watched.tip in
    let absent : list_any (is_watched_at coin tip) (watched_in tag (notes_of dig records)) ≡ false =
    any-map tag coin tip (guards_of (notes_of dig records))
    ∙ ap (λ (s : NodeState _ _). list_any (is_of coin tip) (guards_in (g.H.Hash32.digest_of s.hash) s.notes.records))
    c.self.view_is
    ∙ c.requires.absent in (
      kept-more dig records c.args.body c.add.new.self.notes.records inside.tag inside.account inside.guards.entries
          c.insert_guard.new.all.entries (Guards c.args.watched) role c.in-Ok.ensures.did.records spells
          (λ guards same are. put-keyed c.args.watched guards inside.guards.entries c.insert_guard.new.all.entries
          c.insert_guard.ensures.ordered (ap (list_any (is_watched_at coin tip)) same ∙ absent) are
          c.in_ok-insert_guard.ensures.ok) c.self.invariant.0,
      c.add.ensures.role ∙ c.self.invariant.1,
    )

pub invariant_of-self-in-Err : goal.invariant_of-self-in-Err
invariant_of-self-in-Err g c =
    let inside = c.self.inside in
    let records = inside.notes.notes.records in
    let dig = g.H.Hash32.digest_of inside.hash in
    let tag = (who_is records).tag in
    let coin = c.args.watched.coin in
    let tip = c.args.watched.tip in
    let absent : list_any (is_watched_at coin tip) (watched_in tag (notes_of dig records)) ≡ false =
    any-map tag coin tip (guards_of (notes_of dig records))
    ∙ ap (λ (s : NodeState _ _). list_any (is_of coin tip) (guards_in (g.H.Hash32.digest_of s.hash) s.notes.records))
    c.self.view_is
    ∙ c.requires.absent in
    let before = inside.guards.entries in
    let undone : c.remove.new.self.entries ≡ before =
    c.remove.ensures.entries
    ∙ ap (remove_entry (is_at (by_place (coin, tip)))) c.in_ok-insert_guard.ensures.ok
    ∙ put-undone (coin, tip) c.args.watched before
    (sym (asked-keyed coin tip before (watched_in tag (notes_of dig records)) c.self.invariant.0.are_all) ∙ absent) in
    let stays = stopped-stays g.D.Disk.told g.D.Disk.plan g.D.Disk.faults c.args.body inside.notes.notes
    c.add.new.self.notes c.in-Err.stop c.in-Err.ensures.did in (
      subst (λ (r : List (List ℕ)). IsKept dig r inside.tag inside.account c.remove.new.self.entries) (sym stays)
          (subst (IsKept dig records inside.tag inside.account) (sym undone) c.self.invariant.0),
      c.add.ensures.role ∙ c.self.invariant.1,
    )
