use Rattle.std.proofs.Common.{false, length, ◌∙◌, ap}
use Rattle.std.proofs.Math.Logic.{∥∥₁_map, ∥∥₁_elim}
use Rattle.std.proofs.Props.{props}
use Rattle.crash_disk.specs.Disk.{asks_length, writes, syncs, History, with_write}
use Rattle.crash_disk.specs.FileCalls.{all_passed, holds}
use Rattle.told_files.specs.States.{is_kept}
use Rattle.told_files.proofs.Adding.{added_asked, with_end, told_next, added_told, told_alike}
use Rattle.told_files.proofs.uses.added.Goals as goal

pub returns-clause-told : goal.returns-clause-told
returns-clause-told c =
    added_told c.args.file.bytes.items c.in_ok-place.place c.args.bytes.now _ _ _ _ c.opened-disk.ensures.told
    (told_next _ _ _ _ asks_length false c.in_ok-place.ensures.noted c.in_ok-place.ensures.stays)
    c.in_ok-place.ensures.answer
    (told_next _ _ _ _ (writes c.in_ok-place.place c.args.bytes.now) false c.in_ok-write_at.ensures.noted
    c.in_ok-write_at.ensures.stays)
    (told_next _ _ _ _ syncs false c.in_ok-sync.ensures.noted c.in_ok-sync.ensures.stays)

pub returns-clause-calls : goal.returns-clause-calls
returns-clause-calls c =
    let disk = c.sync.new.self in
    let past = disk.file.log.notes.past in
    let same = told_alike _ _ (returns-clause-told c) in
    ∥∥₁_map
    (added_asked past.was_there (length c.args.file.bytes.items) c.args.bytes.now disk.past.calls past.calls
    (ap (λ (h : History). h.calls) same) c.file.ensures.made disk.file.tells)
    (λ asked. (past.was_there, asked))

pub returns-clause-bytes : goal.returns-clause-bytes
returns-clause-bytes c =
    let file = c.sync.new.self.file in
    let image = c.args.file.bytes.items in
    let same = told_alike _ _ (returns-clause-told c) in
    ∥∥₁_elim (returns-clause-calls c) (search props)
    (λ asked.
    file.held (ap all_passed asked.1)
    ∙ ap (holds file.log.notes.past.began) asked.1
    ∙ ap (λ (h : History). with_write h.began (length image) c.args.bytes.now) same
    ∙ with_end image c.args.bytes.now)

pub returns-clause-named : goal.returns-clause-named
returns-clause-named c =
    ∥∥₁_elim (returns-clause-calls c) (search props) (λ asked. c.sync.new.self.file.kept ∙ ap is_kept asked.1)
