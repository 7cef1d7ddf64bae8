use Rattle.gate_journal.proofs.Words.{◌≡◌, length, arith, err_from_is_err_and}
use Rattle.gate_journal.proofs.Making.{look_fault, look_other, look_unread, look_read}
use Rattle.gate_journal.proofs.make.look.Goals as goal

pub returns-in_err-length-clause-looks : goal.returns-in_err-length-clause-looks
returns-in_err-length-clause-looks g c =
    let p = err_from_is_err_and c.from_residual.result c.from_residual.ensures.1 in
    rw p.1 (look_fault g.D.Disk.told g.D.Disk.plan c.in_err-length.ensures.called)

pub returns-then-length-ne5-clause-looks : goal.returns-then-length-ne5-clause-looks
returns-then-length-ne5-clause-looks g c =
    let asks = c.in_ok-length.ensures in
    look_other g.D.Disk.told g.D.Disk.plan asks.called c.in_ok-length.length asks.answer c.if-length-ne5.true

pub returns-in_err-read_at-clause-looks : goal.returns-in_err-read_at-clause-looks
returns-in_err-read_at-clause-looks g c =
    let p = err_from_is_err_and c.from_residual-in_err-read_at.result c.from_residual-in_err-read_at.ensures.1 in
    let asks = c.in_ok-length.ensures in
    rw p.1 (look_unread g.D.Disk.told g.D.Disk.plan asks.called c.in_ok-length.length asks.answer
    c.if-length-ne5.false c.in_err-read_at.ensures.called)

pub returns-clause-looks : goal.returns-clause-looks
returns-clause-looks g c =
    let asks = c.in_ok-length.ensures in
    let read = c.in_ok-read_at.ensures in
    let all : length c.read_at.new.room ≡ 5 = omega (arith, c.read_at.auto.room) in
    let l = look_read g.D.Disk.told g.D.Disk.plan asks.called c.in_ok-length.length asks.answer c.read_at.new.room
    c.if-length-ne5.false read.called read.answer all in
    rw c.is_empty_journal-made.ensures l
