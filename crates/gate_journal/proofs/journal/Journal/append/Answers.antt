use Rattle.gate_journal.proofs.Words.{◌≡◌, ◌+◌, ℕ, false, length, List, Some, sym, ◌∙◌, ap, subst, arith, option_map, History, LeavesOnly, passed, failed_after, with_made, append_steps, steps_at, JournalState, KeepsWithOrWithout, RestsAt}
use Rattle.gate_journal.proofs.Spelling.{length-frame_of}
use Rattle.gate_journal.proofs.OpenCalls.{told_of}
use Rattle.gate_journal.proofs.Rest.{gate_within, rests_again, still_leaves, one_room, less_room}
use Rattle.gate_journal.proofs.Appending.{was_open, ready_for, room_for, is_open, appended, append_failed, kept, any_moment}
use Rattle.gate_journal.proofs.journal.Journal.append.Goals as goal

pub write_record-requires-clause-within : goal.write_record-requires-clause-within
write_record-requires-clause-within g c =
    let d = g.D.Disk in
    let ready =
    ready_for {told = d.told} {plan = d.plan} {faults = d.faults} {body = c.args.body.now} c.self-2.view_is
    (was_open c.self.view_is c.if-self.false)
    (omega (arith, c.if-body-gt-MOST_BYTES.false)) c.in_ok-reserve_one.ensures.room c.reserve_one.ensures.still in
    λ history is. gate_within c.self-2.inside.gate history (c.self-2.invariant.rests (is_open ready) history is)

pub write_record-requires-clause-bytes : goal.write_record-requires-clause-bytes
write_record-requires-clause-bytes g c =
    let d = g.D.Disk in
    let j = c.self-2.inside in
    let ready =
    ready_for {told = d.told} {plan = d.plan} {faults = d.faults} {body = c.args.body.now} c.self-2.view_is
    (was_open c.self.view_is c.if-self.false)
    (omega (arith, c.if-body-gt-MOST_BYTES.false)) c.in_ok-reserve_one.ensures.room c.reserve_one.ensures.still in
    let roomy = room_for ready in
    let body = c.args.body.now in
    let room = one_room j.spare_bodies j.spare_bytes (length body) _ roomy.some roomy.fits
    (c.self-2.invariant.room (is_open ready)) in
    omega (arith, room, ap length c.deref.ensures.value, ap length c.frame.ensures.items, length-frame_of body)

pub invariant_of-self : goal.invariant_of-self
invariant_of-self g c =
    let d = g.D.Disk in
    let j = c.self-2.inside in
    let s = c.self-2.invariant in
    let body = c.args.body.now in
    let ready =
    ready_for {told = d.told} {plan = d.plan} {faults = d.faults} {body = c.args.body.now} c.self-2.view_is
    (was_open c.self.view_is c.if-self.false)
    (omega (arith, c.if-body-gt-MOST_BYTES.false)) c.in_ok-reserve_one.ensures.room c.reserve_one.ensures.still in
    let roomy = room_for ready in
    let is_frame = c.deref.ensures.value ∙ c.frame.ensures.items in
    let made : d.told c.write_record.new.disk ≡ option_map (with_made 4 (append_steps j.gate body)) (d.told j.disk) =
    c.in-Ok.ensures.made.calls
    ∙ ap (λ (b : List ℕ). option_map (with_made 4 (steps_at j.gate b)) (d.told j.disk)) is_frame in
    let len = ap length is_frame ∙ length-frame_of body in
    record {
      rests = λ closed history is.
          let before = told_of (with_made 4 (append_steps j.gate body)) (d.told j.disk)
          (d.told c.write_record.new.disk) history made is in
          subst (RestsAt (j.gate + (5 + length body))) (sym before.2)
          (rests_again j.gate before.0 (s.rests (is_open ready) before.0 before.1) body ready.fits);
      place = omega (arith, c.in-Ok.ensures.fits, len);
      calls = λ closed. omega (arith, s.calls (is_open ready), c.write_record.ensures.calls_left, roomy.some);
      room = λ closed. less_room j.spare_bodies j.spare_bytes (length body) _ _ roomy.some roomy.fits
          (s.room (is_open ready)) (omega (arith, c.write_record.ensures.bytes_left, len));
      buffer = λ some. omega (arith, s.buffer (omega (arith, some)), c.frame.ensures.room);
    }

pub returns-in-Ok-clause-appends : goal.returns-in-Ok-clause-appends
returns-in-Ok-clause-appends g c =
    let d = g.D.Disk in
    let ready =
    ready_for {told = d.told} {plan = d.plan} {faults = d.faults} {body = c.args.body.now} c.self-2.view_is
    (was_open c.self.view_is c.if-self.false)
    (omega (arith, c.if-body-gt-MOST_BYTES.false)) c.in_ok-reserve_one.ensures.room c.reserve_one.ensures.still in
    appended ready c.deref.result.now (c.deref.ensures.value ∙ c.frame.ensures.items) c.in-Ok.ensures.made

pub returns-in-Ok-clause-kept : goal.returns-in-Ok-clause-kept
returns-in-Ok-clause-kept g c =
    let d = g.D.Disk in
    let ready =
    ready_for {told = d.told} {plan = d.plan} {faults = d.faults} {body = c.args.body.now} c.self-2.view_is
    (was_open c.self.view_is c.if-self.false)
    (omega (arith, c.if-body-gt-MOST_BYTES.false)) c.in_ok-reserve_one.ensures.room c.reserve_one.ensures.still in
    kept ready c.deref.result.now (c.deref.ensures.value ∙ c.frame.ensures.items)
    (c.self-2.invariant.rests (is_open ready)) c.in-Ok.ensures.made

pub returns-in-Ok-clause-any_moment : goal.returns-in-Ok-clause-any_moment
returns-in-Ok-clause-any_moment g c = λ still_open.
    let d = g.D.Disk in
    let ready =
    ready_for {told = d.told} {plan = d.plan} {faults = d.faults} {body = c.args.body.now} c.self-2.view_is
    (was_open c.self.view_is c.if-self.false)
    (omega (arith, c.if-body-gt-MOST_BYTES.false)) c.in_ok-reserve_one.ensures.room c.reserve_one.ensures.still in
    any_moment ready c.deref.result.now (c.deref.ensures.value ∙ c.frame.ensures.items)
    (c.self-2.invariant.rests (is_open ready)) passed c.in-Ok.ensures.made

pub returns-in-Err-clause-appends : goal.returns-in-Err-clause-appends
returns-in-Err-clause-appends g c =
    let d = g.D.Disk in
    let ready =
    ready_for {told = d.told} {plan = d.plan} {faults = d.faults} {body = c.args.body.now} c.self-2.view_is
    (was_open c.self.view_is c.if-self.false)
    (omega (arith, c.if-body-gt-MOST_BYTES.false)) c.in_ok-reserve_one.ensures.room c.reserve_one.ensures.still in
    let made = c.in-Err.ensures.made in
    append_failed ready c.deref.result.now
    (c.deref.ensures.value
    ∙ c.frame.ensures.items) made.0 c.self-2.inside.spare_bodies c.self-2.inside.spare_bytes made.1

pub returns-in-Err-clause-any_moment : goal.returns-in-Err-clause-any_moment
returns-in-Err-clause-any_moment g c = λ still_open.
    let d = g.D.Disk in
    let ready =
    ready_for {told = d.told} {plan = d.plan} {faults = d.faults} {body = c.args.body.now} c.self-2.view_is
    (was_open c.self.view_is c.if-self.false)
    (omega (arith, c.if-body-gt-MOST_BYTES.false)) c.in_ok-reserve_one.ensures.room c.reserve_one.ensures.still in
    let made = c.in-Err.ensures.made in
    any_moment ready c.deref.result.now (c.deref.ensures.value ∙ c.frame.ensures.items)
    (c.self-2.invariant.rests (is_open ready)) (failed_after made.0) made.1

pub returns-then-body-gt-MOST_BYTES-clause-any_moment : goal.returns-then-body-gt-MOST_BYTES-clause-any_moment
returns-then-body-gt-MOST_BYTES-clause-any_moment g c = λ still_open before is records keeps now is_now.
    let j = c.self.inside in
    let same : before ≡ now = cc (is, is_now) in
    let is_open_now : j.closed ≡ false = ap (λ (s : JournalState _). s.closed) c.self.view_is ∙ still_open in
    let is_told : g.D.Disk.told j.disk ≡ Some before =
    ap (λ (s : JournalState _). g.D.Disk.told s.disk) c.self.view_is ∙ is in
    subst (λ (h : History). LeavesOnly before h (KeepsWithOrWithout records c.args.body.now)) same
    (still_leaves j.gate before (c.self.invariant.rests is_open_now before is_told) records c.args.body.now keeps)

pub returns-in_err-reserve_one-clause-any_moment : goal.returns-in_err-reserve_one-clause-any_moment
returns-in_err-reserve_one-clause-any_moment g c = λ still_open before is records keeps now is_now.
    let j = c.self.inside in
    let same : before ≡ now = cc (c.reserve_one.ensures.still.same_calls ∙ is, is_now) in
    let is_open_now : j.closed ≡ false = ap (λ (s : JournalState _). s.closed) c.self.view_is ∙ still_open in
    let is_told : g.D.Disk.told j.disk ≡ Some before =
    ap (λ (s : JournalState _). g.D.Disk.told s.disk) c.self.view_is ∙ is in
    subst (λ (h : History). LeavesOnly before h (KeepsWithOrWithout records c.args.body.now)) same
    (still_leaves j.gate before (c.self.invariant.rests is_open_now before is_told) records c.args.body.now keeps)
