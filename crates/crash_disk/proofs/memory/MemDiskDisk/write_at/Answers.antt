use Rattle.crash_disk.proofs.Words.{rules, ◌≡◌, ◌≤◌, ℕ, List, [], ◌∷◌, ◌++◌, length, sym, ◌∙◌, ap, arith, length-append, with_write, content, synced_content, unsynced_ranges, MemState, undone}
use Rattle.crash_disk.proofs.Undone.{replaced_by, undone_write, undoable_write}
use Rattle.crash_disk.proofs.memory.MemDiskDisk.write_at.Goals as goal

pub invariant_of-self : goal.invariant_of-self
invariant_of-self c =
    let disk = c.self.inside in
    let whole = c.self.invariant in
    let place = c.args.place in
    let bytes = c.args.bytes.now in
    let old = disk.bytes.items in
    let ranges = disk.unsynced.items in
    let starts = disk.starts.items in
    let replaced = disk.replaced.items in
    let told = ap (λ (s : MemState). length (content s.history)) c.self.view_is in
    let fits : place ≤ length old = omega (arith, c.requires.within, told, ap length whole.holds) in
    let same : length starts ≡ length ranges = omega (arith, whole.starts, disk.starts.ok, disk.unsynced.ok) in
    let range : c.push.new.self.items ≡ ranges ++ (place, length bytes) ∷ [] =
    search (rules, c.unwrap.ensures, c.push.ensures.items) in
    let pushed : c.push-2.new.self.items ≡ starts ++ c.len.result ∷ [] =
    search (rules, c.unwrap-2.ensures, c.push-2.ensures.items) in
    let start : c.push-2.new.self.items ≡ starts ++ length replaced ∷ [] =
    pushed ∙ ap (λ (n : ℕ). starts ++ n ∷ []) (omega (arith, c.len.ensures, disk.replaced.ok)) in
    let kept : c.keep.new.replaced.items ≡ replaced ++ replaced_by old place bytes =
    c.keep.ensures.items ∙ ap (λ (l : List ℕ). replaced ++ replaced_by l place bytes) c.deref.ensures.value in
    let new : c.overwrite.new.content.items ≡ with_write old place bytes = c.overwrite.ensures.items in
    let noted = ap (λ (s : MemState). s.history) c.note-failed.ensures.noted in
    let calls = ap (λ (s : MemState). s.room.calls) c.note-failed.ensures.noted in
    let left = ap (λ (s : MemState). s.room.bytes) c.note-failed.ensures.noted in
    let had_calls = ap (λ (s : MemState). s.room.calls) c.self.view_is in
    let had_bytes = ap (λ (s : MemState). s.room.bytes) c.self.view_is in
    record {
      holds = new ∙ ap (λ (l : List ℕ). with_write l place bytes) whole.holds ∙ sym (ap content noted);
      ranges = range ∙ ap (λ (l : List (ℕ × ℕ)). l ++ (place, length bytes) ∷ []) whole.ranges
          ∙ sym (ap unsynced_ranges noted);
      starts = omega (
        arith,
        same,
        ap length range,
        ap length start,
        length-append ranges ((place, length bytes) ∷ []),
        length-append starts (length replaced ∷ []),
        c.push.new.self.ok,
        c.push-2.new.self.ok,
      );
      undoable = rw (range, start, kept, new)
          (undoable_write ranges starts replaced old place bytes same fits whole.undoable);
      synced = (λ i. undone (length (range i)) (range i) (start i) (kept i) (new i))
          ∙ undone_write ranges starts replaced old place bytes same fits
          ∙ whole.synced ∙ sym (ap synced_content noted);
      ranges_room = omega (
        arith,
        whole.ranges_room,
        calls,
        had_calls,
        c.requires.room.calls,
        c.push.ensures.capacity,
        c.push.ensures.upper_bound,
      );
      starts_room = omega (
        arith,
        whole.starts_room,
        calls,
        had_calls,
        c.requires.room.calls,
        c.push-2.ensures.capacity,
        c.push-2.ensures.upper_bound,
      );
      bytes_room = omega (
        arith,
        whole.bytes_room,
        left,
        had_bytes,
        c.requires.room.bytes,
        c.overwrite.ensures.len,
        c.overwrite.ensures.room,
      );
      replaced_room = omega (
        arith,
        whole.replaced_room,
        left,
        had_bytes,
        c.requires.room.bytes,
        c.keep.ensures.len,
        c.keep.ensures.room,
      );
    }
