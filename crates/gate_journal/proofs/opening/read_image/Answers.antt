use Rattle.gate_journal.proofs.Words.{◌≡◌, length, ◌∙◌, arith, err_from_is_err_and, content}
use Rattle.gate_journal.proofs.OpenCalls.{open_none, open_unsynced, open_unasked, open_begun, open_unread, open_read, read_is_content, whole_room}
use Rattle.gate_journal.proofs.opening.read_image.Goals as goal

pub returns-in_err-make_room-clause-refused : goal.returns-in_err-make_room-clause-refused
returns-in_err-make_room-clause-refused g c =
    let p = err_from_is_err_and c.from_residual.result c.from_residual.ensures.1 in
    rw (p.1, p.2) (
      0,
      (λ one. absurd (omega (arith, one))),
      open_none g.D.Disk.told g.D.Disk.plan g.D.Disk.faults c.make_room.ensures.still,
    )

pub returns-in_err-sync-clause-refused : goal.returns-in_err-sync-clause-refused
returns-in_err-sync-clause-refused g c =
    let p = err_from_is_err_and c.from_residual-in_err-sync.result c.from_residual-in_err-sync.ensures.1 in
    rw (p.1, p.2) (
      0,
      open_unsynced g.D.Disk.told g.D.Disk.plan g.D.Disk.faults c.make_room.ensures.still
          c.in_err-sync.ensures.called,
    )

pub returns-in_err-len-clause-refused : goal.returns-in_err-len-clause-refused
returns-in_err-len-clause-refused g c =
    let p = err_from_is_err_and c.from_residual-in_err-len.result c.from_residual-in_err-len.ensures.1 in
    rw (p.1, p.2) (
      1,
      open_unasked g.D.Disk.told g.D.Disk.plan g.D.Disk.faults c.make_room.ensures.still
          c.in_ok-sync.ensures.called c.in_err-len.ensures.called,
    )

pub returns-in_err-image-clause-refused : goal.returns-in_err-image-clause-refused
returns-in_err-image-clause-refused g c =
    let p = err_from_is_err_and c.from_residual-in_err-image.result c.from_residual-in_err-image.ensures.1 in
    rw (p.1, p.2) (
      2,
      (λ one. absurd (omega (arith, one))),
      open_begun g.D.Disk.told g.D.Disk.plan g.D.Disk.faults c.make_room.ensures.still c.in_ok-sync.ensures.called
          c.in_ok-len.ensures.called,
    )

pub returns-in_err-read_at-clause-refused : goal.returns-in_err-read_at-clause-refused
returns-in_err-read_at-clause-refused g c =
    let p = err_from_is_err_and c.from_residual-in_err-read_at.result c.from_residual-in_err-read_at.ensures.1 in
    let count : length c.deref_mut.result.now ≡ c.in_ok-len.len =
    omega (arith, c.deref_mut.ensures.len, c.in_ok-image.ensures.len) in
    rw (p.1, p.2) (
      2,
      open_unread g.D.Disk.told g.D.Disk.plan g.D.Disk.faults c.make_room.ensures.still
          c.in_ok-sync.ensures.called c.in_ok-len.ensures.called (length c.deref_mut.result.now)
          (λ history is. count ∙ c.in_ok-len.ensures.answer history is) c.in_err-read_at.ensures.called,
    )

pub returns-clause-made : goal.returns-clause-made
returns-clause-made g c =
    let count : length c.deref_mut.result.now ≡ c.in_ok-len.len =
    omega (arith, c.deref_mut.ensures.len, c.in_ok-image.ensures.len) in
    open_read g.D.Disk.told g.D.Disk.plan g.D.Disk.faults c.make_room.ensures.still c.in_ok-sync.ensures.called
    c.in_ok-len.ensures.called (length c.deref_mut.result.now)
    (λ history is. count ∙ c.in_ok-len.ensures.answer history is) c.in_ok-read_at.ensures.called

pub returns-clause-image : goal.returns-clause-image
returns-clause-image g c = λ before is.
    let told = g.D.Disk.told in
    let room = c.read_at.new.room in
    let image = c.in_ok-image.image in
    let count : length c.deref_mut.result.now ≡ c.in_ok-len.len =
    omega (arith, c.deref_mut.ensures.len, c.in_ok-image.ensures.len) in
    let content_is : room ≡ content before =
    read_is_content told g.D.Disk.plan g.D.Disk.faults c.make_room.ensures.still c.in_ok-sync.ensures.called
    c.in_ok-len.ensures.called (length c.deref_mut.result.now)
    (λ history is. count ∙ c.in_ok-len.ensures.answer history is) room c.in_ok-read_at.ensures.answer before is in
    let len : length room ≡ length c.deref_mut.result.now = c.read_at.auto.room in
    whole_room room image.items image.len (omega (arith, len, c.deref_mut.ensures.len)) ∙ content_is
