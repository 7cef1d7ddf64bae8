use Rattle.std.proofs.Common.{◌≡◌, length, ◌∙◌, arith}
use Rattle.crash_disk.specs.Disk.{content}
use Rattle.safe_runs.proofs.DiskLooks.{looks-none, looks-length, looks-read, image-read, whole_room}
use Rattle.safe_runs.proofs.image.read_image.Goals as goal

pub returns-in_err-len-clause-looks : goal.returns-in_err-len-clause-looks
returns-in_err-len-clause-looks g c =
    looks-length g.D.Disk.told g.D.Disk.plan _ _ _ _
    (looks-none g.D.Disk.told _ _ c.make_room.ensures.still.same_calls) c.in_err-len.ensures.called

pub returns-in_err-image-clause-looks : goal.returns-in_err-image-clause-looks
returns-in_err-image-clause-looks g c =
    looks-length g.D.Disk.told g.D.Disk.plan _ _ _ _
    (looks-none g.D.Disk.told _ _ c.make_room.ensures.still.same_calls) c.in_ok-len.ensures.called

pub returns-in_err-read_at-clause-looks : goal.returns-in_err-read_at-clause-looks
returns-in_err-read_at-clause-looks g c =
    looks-read g.D.Disk.told g.D.Disk.plan _ _ _ _ _ _
    (looks-length g.D.Disk.told g.D.Disk.plan _ _ _ _
    (looks-none g.D.Disk.told _ _ c.make_room.ensures.still.same_calls) c.in_ok-len.ensures.called)
    c.in_err-read_at.ensures.called

pub returns-clause-looks : goal.returns-clause-looks
returns-clause-looks g c =
    looks-read g.D.Disk.told g.D.Disk.plan _ _ _ _ _ _
    (looks-length g.D.Disk.told g.D.Disk.plan _ _ _ _
    (looks-none g.D.Disk.told _ _ c.make_room.ensures.still.same_calls) c.in_ok-len.ensures.called)
    c.in_ok-read_at.ensures.called

pub returns-clause-image : goal.returns-clause-image
returns-clause-image g c = λ before is.
    let room = c.read_at.new.room in
    let image = c.in_ok-image.image in
    let count : length c.deref_mut.result.now ≡ c.in_ok-len.len =
    omega (arith, c.deref_mut.ensures.len, c.in_ok-image.ensures.len) in
    let content_is : room ≡ content before =
    image-read g.D.Disk.told g.D.Disk.plan _ _ _ room (length c.deref_mut.result.now) before
    c.make_room.ensures.still.same_calls c.in_ok-len.ensures.called c.in_ok-read_at.ensures.answer
    (count ∙ c.in_ok-len.ensures.answer before (c.make_room.ensures.still.same_calls ∙ is)) is in
    let len : length room ≡ length c.deref_mut.result.now = c.read_at.auto.room in
    whole_room room image.items image.len (omega (arith, len, c.deref_mut.ensures.len)) ∙ content_is
