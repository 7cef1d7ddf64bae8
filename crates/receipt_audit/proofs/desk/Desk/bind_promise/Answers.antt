use Rattle.std.proofs.Common.{Some, None, ap, ◌∙◌, subst}
use Rattle.node_journal.specs.Notes.{Did}
use Rattle.node_journal.specs.declared.stop.Stop.TheVariants.{DeviceFault}
use Rattle.leaf_journal.specs.Records.{binding_record}
use Rattle.leaf_journal.specs.Leaves.{LeavesState}
use Rattle.leaf_journal.proofs.Binding.{bind-did}
use Rattle.receipt_audit.proofs.Issues.{bind-failed, left-of, pass-more, pass-same}
use Rattle.receipt_audit.proofs.desk.Desk.bind_promise.Goals as goal
use Rattle.receipt_audit.proofs.desk.Desk.bind_promise.Goals.{in-Ok, in-Err}

pub invariant_of-self : goal.invariant_of-self
invariant_of-self g c =
    elim c.match-bind.branch [
      | in-Ok w ↦ pass-more c.args.text.now c.self.inside.leaves.notes.records c.bind.new.self.notes.records
          c.requires.promise w.in-Ok.ensures.messages c.self.invariant
      | in-Err w ↦ pass-same c.self.inside.leaves.notes.records c.bind.new.self.notes.records
          w.in-Err.ensures.messages c.self.invariant
    ]

pub returns-clause-did : goal.returns-clause-did
returns-clause-did g c =
    let inside = c.self.inside.leaves in
    let left = left-of inside c.args.self.now c.args.key.now c.leaves-leaves.result c.self.view_is
    c.requires.key c.leaves-leaves.ensures.value c.leaves-leaves.ensures.of_public c.requires.left in
    elim c.match-bind.branch [
      | in-Ok w ↦ rw w.result-is
          (subst (λ (s : LeavesState _). Did g.D.Disk.told g.D.Disk.plan g.D.Disk.faults
          (Some (binding_record s.notes.records c.args.text.now)) s.notes None c.bind.new.self.notes) c.self.view_is
          (bind-did inside.key inside.notes.records c.args.text.now left g.D.Disk.told g.D.Disk.plan g.D.Disk.faults
          inside.notes c.bind.new.self.notes None w.in-Ok.ensures.did))
      | in-Err w ↦ rw w.result-is tt
    ]

pub returns-clause-failed : goal.returns-clause-failed
returns-clause-failed g c =
    let inside = c.self.inside.leaves in
    let left = left-of inside c.args.self.now c.args.key.now c.leaves-leaves.result c.self.view_is
    c.requires.key c.leaves-leaves.ensures.value c.leaves-leaves.ensures.of_public c.requires.left in
    elim c.match-bind.branch [
      | in-Ok w ↦ rw w.result-is tt
      | in-Err w ↦ rw w.result-is
          (subst (λ (s : LeavesState _). Did g.D.Disk.told g.D.Disk.plan g.D.Disk.faults
          (Some (binding_record s.notes.records c.args.text.now)) s.notes (Some DeviceFault)
          c.bind.new.self.notes) c.self.view_is
          (bind-failed g.D.Disk.told g.D.Disk.plan g.D.Disk.faults c.args.text.now inside c.bind.new.self left
          w.in-Err.field-0 (ap (λ (s : LeavesState _). s.notes.closed) c.self.view_is ∙ c.requires.open)
          w.in-Err.ensures.answer w.in-Err.ensures.did))
    ]
