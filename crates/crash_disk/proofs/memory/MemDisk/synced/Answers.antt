use Rattle.crash_disk.proofs.Words.{◌≡◌, length, ◌∙◌, ap, arith, content, synced_content, MemState, undone}
use Rattle.crash_disk.proofs.Images.{synced_no_longer}
use Rattle.crash_disk.proofs.memory.MemDisk.synced.Goals as goal

pub returns-clause-short : goal.returns-clause-short
returns-clause-short c =
    let disk = c.self.inside in
    let history = disk.log.history in
    let bytes : c.in_ok-synced.synced.items ≡ disk.bytes.items = c.in_ok-synced.ensures.items_if_clones_equal (λ x y e. e)
    ∙ c.deref.ensures.value in
    let ranges = c.deref-2.ensures.value in
    let starts = c.deref-3.ensures.value in
    let replaced = c.deref-4.ensures.value in
    let synced : c.undo.new.content.items ≡ synced_content history =
    c.undo.ensures
    ∙ (λ i. undone (length (ranges i)) (ranges i) (starts i) (replaced i) (bytes i))
    ∙ c.self.invariant.synced in
    let same = ap (λ (s : MemState). length (content s.history)) c.self.view_is in
    omega (arith, ap length synced, synced_no_longer history.began history.calls, same)
