use Rattle.gate_journal.proofs.Words.{◌≡◌, List, ℕ, Option, sym, ◌∙◌, err_from_is_err_and, History, FaultPlan, content, WhereTold, IsStill, made_from}
use Rattle.gate_journal.proofs.Making.{make_unlooked, make_found, make_unwritten, make_unsynced, make_done, now_fresh, any_makes}
use Rattle.gate_journal.proofs.make.make_journal.Goals as goal

-- the image that a disk holds stays while it is still the same
before_room : {D : Type 0} (told : D → Option History) (plan : D → Option FaultPlan) (faults : D → ℕ) {first old : D}
    (image : List ℕ) → IsStill told plan faults first old
    → WhereTold (told old) (λ before. image ≡ content before)
    → WhereTold (told first) (λ before. image ≡ content before)
before_room told plan faults image still same before some = same before (still.same_calls ∙ some)

pub returns-in_err-make_room-clause-makes : goal.returns-in_err-make_room-clause-makes
returns-in_err-make_room-clause-makes g c =
    let p = err_from_is_err_and c.from_residual.result c.from_residual.ensures.1 in
    rw (p.1, p.2) (any_makes g.D.Disk.told g.D.Disk.plan c.in_err-make_room.ensures.err)

pub returns-in_err-found-clause-makes : goal.returns-in_err-found-clause-makes
returns-in_err-found-clause-makes g c =
    let told = g.D.Disk.told in
    let plan = g.D.Disk.plan in
    let p = err_from_is_err_and c.from_residual-in_err-found.result c.from_residual-in_err-found.ensures.1 in
    let l = c.in_err-found.ensures.looks in
    let still = c.make_room.ensures.still in
    rw (p.1, p.2) (
      l.0,
      before_room told plan g.D.Disk.faults l.0 still l.1,
      (l.2.1.0, made_from told plan still (make_unlooked told plan l.0 l.1 l.2.1.0 l.2.1.1)),
    )

pub returns-then-found-clause-makes : goal.returns-then-found-clause-makes
returns-then-found-clause-makes g c =
    let told = g.D.Disk.told in
    let plan = g.D.Disk.plan in
    let l = c.in_ok-found.ensures.looks in
    let still = c.make_room.ensures.still in
    let made = sym l.2.0.0 ∙ c.if-found.true in (
      l.0,
      before_room told plan g.D.Disk.faults l.0 still l.1,
      (made, l.2.0.1, made_from told plan still (make_found told plan l.0 l.1 l.2.1 made)),
    )

pub returns-in_err-write_at-clause-makes : goal.returns-in_err-write_at-clause-makes
returns-in_err-write_at-clause-makes g c =
    let told = g.D.Disk.told in
    let plan = g.D.Disk.plan in
    let p = err_from_is_err_and c.from_residual-in_err-write_at.result c.from_residual-in_err-write_at.ensures.1 in
    let l = c.in_ok-found.ensures.looks in
    let still = c.make_room.ensures.still in
    rw (p.1, p.2) (
      l.0,
      before_room told plan g.D.Disk.faults l.0 still l.1,
      (
        _,
        made_from told plan still
            (make_unwritten told plan l.0 l.1 l.2.1 (sym l.2.0.0 ∙ c.if-found.false) c.in_err-write_at.ensures.called),
      ),
    )

pub returns-in_err-sync-clause-makes : goal.returns-in_err-sync-clause-makes
returns-in_err-sync-clause-makes g c =
    let told = g.D.Disk.told in
    let plan = g.D.Disk.plan in
    let p = err_from_is_err_and c.from_residual-in_err-sync.result c.from_residual-in_err-sync.ensures.1 in
    let l = c.in_ok-found.ensures.looks in
    let still = c.make_room.ensures.still in
    rw (p.1, p.2) (
      l.0,
      before_room told plan g.D.Disk.faults l.0 still l.1,
      (
        _,
        made_from told plan still
            (make_unsynced told plan l.0 l.1 l.2.1
            (sym l.2.0.0 ∙ c.if-found.false) c.in_ok-write_at.ensures.called c.in_err-sync.ensures.called),
      ),
    )

pub returns-clause-makes : goal.returns-clause-makes
returns-clause-makes g c =
    let told = g.D.Disk.told in
    let plan = g.D.Disk.plan in
    let l = c.in_ok-found.ensures.looks in
    let still = c.make_room.ensures.still in
    let new = sym l.2.0.0 ∙ c.if-found.false in (
      l.0,
      before_room told plan g.D.Disk.faults l.0 still l.1,
      (
        new,
        made_from told plan still
            (make_done told plan l.0 l.1 l.2.1 new c.in_ok-write_at.ensures.called c.in_ok-sync.ensures.called),
      ),
    )

pub returns-clause-fresh : goal.returns-clause-fresh
returns-clause-fresh g c =
    let l = c.in_ok-found.ensures.looks in
    now_fresh g.D.Disk.told g.D.Disk.plan l.0 l.1 l.2.1
    (sym l.2.0.0 ∙ c.if-found.false) c.in_ok-write_at.ensures.called c.in_ok-sync.ensures.called
