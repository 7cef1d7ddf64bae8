use Rattle.std.proofs.Common.{ap, ◌∙◌}
use Rattle.node_rules.specs.Watcher.{who_is}
use Rattle.node_journal.specs.Parts.{alone}
use Rattle.node_roles.specs.Roles.{watcher_commands}
use Rattle.node_roles.proofs.NodeLaws.{done-at, stopped-at}
use Rattle.node_roles.proofs.NotesLaws.{notes-go, stays}
use Rattle.node_roles.proofs.WatcherRefusals.{watcher-quiet, watcher-tag}
use Rattle.node_roles.proofs.watcher.WatcherRunCommanded.answer.Goals as goal

pub returns-clause-said : goal.returns-clause-said
returns-clause-said g c =
    λ at is.
    done-at g.D.Disk.told g.D.Disk.faults watcher_commands c.args.log.now.log c.args.command
    (g.H.Hash32.digest_of c.args.self.now.node.hash) at (alone c.args.self.now.node.notes)
    (alone c.answer_watcher.new.node.notes) is.0 is.1 _
    (notes-go g.D.Disk.told g.D.Disk.plan g.D.Disk.faults _ at.kept c.args.self.now.node.notes
    c.answer_watcher.new.node.notes is.1)
    c.answer_watcher.result c.answer_watcher.ensures.did _ _
    (λ left there. (ap g.H.Hash32.digest_of c.answer_watcher.ensures.hash ∙ is.0, there))
    (watcher-quiet (g.H.Hash32.digest_of c.args.self.now.node.hash) c.args.log.now.log
    c.args.self.now.node.notes.records
    c.args.command)
    _ _ c.answer_watcher.ensures.said

pub returns-clause-stopped : goal.returns-clause-stopped
returns-clause-stopped g c =
    λ at is.
    stopped-at g.D.Disk.told g.D.Disk.faults watcher_commands c.args.log.now.log c.args.command
    (g.H.Hash32.digest_of c.args.self.now.node.hash) at (alone c.args.self.now.node.notes)
    (alone c.answer_watcher.new.node.notes) is.0 is.1 _
    (notes-go g.D.Disk.told g.D.Disk.plan g.D.Disk.faults _ at.kept c.args.self.now.node.notes
    c.answer_watcher.new.node.notes is.1)
    c.answer_watcher.result c.answer_watcher.ensures.did

pub returns-clause-same_tag : goal.returns-clause-same_tag
returns-clause-same_tag g c =
    stays g.D.Disk.told g.D.Disk.plan g.D.Disk.faults (λ records. (who_is records).tag) _ c.args.self.now.node.notes
    c.answer_watcher.new.node.notes c.answer_watcher.ensures.did.0
    (watcher-tag (g.H.Hash32.digest_of c.args.self.now.node.hash) c.args.self.now.node.notes.records
    c.is_whole.ensures.role)
    c.answer_watcher.ensures.did.1
