use Rattle.crash_disk.proofs.Words.{◌≡◌, length, undone, IsUndoable}
use Rattle.crash_disk.proofs.undo.undo.Given as goal

abbrev pub invariant-loop-index : goal.invariant-loop-index
invariant-loop-index l = record {
  undoable : IsUndoable l.index l.ranges l.starts l.left l.content.items;
  same : undone l.index l.ranges l.starts l.left l.content.items
      ≡ undone (length l.ranges) l.ranges l.starts l.replaced l.fn.content.items;
}
