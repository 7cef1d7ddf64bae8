use Rattle.crash_disk.proofs.Words.{◌-◌, ℕ, List, take, get_or, slice_index, sym, ◌∙◌, ap, subst, before_write, undone, IsUndoable}
use Rattle.crash_disk.proofs.Undone.{undoable_newest, undone_newest}
use Rattle.crash_disk.proofs.undo.undo.Goals as goal

pub loop-index-preserved : goal.loop-index-preserved
loop-index-preserved c =
    let index = c.loop-index.index in
    let ranges = c.args.ranges.now in
    let starts = c.args.starts.now in
    let left = c.loop-index.left.now in
    let bytes = c.loop-index.content.items in
    let older = c.split_at.ensures.front in
    let before = c.undo_write.ensures
    ∙ ap (λ (l : List ℕ). before_write (get_or ranges (index - 1) (0, 0)) l bytes) c.split_at.ensures.back in
    let newest = undoable_newest index ranges starts left bytes c.loop-index-test.true
    c.loop-index.invariant.undoable in
    record {
      undoable = subst (λ (l : List ℕ). IsUndoable (index - 1) ranges starts l c.undo_write.new.content.items)
          (sym older)
          (subst
          (λ (l : List ℕ). IsUndoable (index - 1) ranges starts (take (slice_index starts (index - 1)) left) l)
          (sym before) newest.2);
      same = (λ i. undone (index - 1) ranges starts (older i) (before i))
          ∙ undone_newest index ranges starts left bytes c.loop-index-test.true
          ∙ c.loop-index.invariant.same;
    }
