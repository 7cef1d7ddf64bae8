use Rattle.std.proofs.Common.{ap, ◌∙◌, subst}
use Rattle.node_journal.specs.Notes.{Did}
use Rattle.leaf_journal.specs.Leaves.{LeavesState, marker_effect, migrate_stop}
use Rattle.receipt_audit.proofs.desk.Desk.migrate.Goals as goal

pub returns-clause-answer : goal.returns-clause-answer
returns-clause-answer g c given =
    c.migrate.ensures.answer given
    ∙ ap (λ (s : LeavesState _). (marker_effect s.notes.records).answer) c.self.view_is

pub returns-clause-did : goal.returns-clause-did
returns-clause-did g c =
    subst (λ (s : LeavesState _). Did g.D.Disk.told g.D.Disk.plan g.D.Disk.faults (marker_effect s.notes.records).note
    s.notes (migrate_stop c.migrate.result) c.migrate.new.self.notes) c.self.view_is c.migrate.ensures.did
