use Rattle.std.proofs.Common.{subst, true}
use Rattle.streamed_lines.specs.Outside.{Wrote, WroteFront, ReadsToFault}
use Rattle.streamed_lines.proofs.OutsideLaws.{front-whole}
use Rattle.replay_run.proofs.OutsideLaws.{front-none}
use Rattle.replay_run.proofs.PromptLaws.{brief-unwritten, brief-last}
use Rattle.replay_run.proofs.RunLaws.{by-error, read-before, read-by}
use Rattle.replay_run.proofs.BriefLaws.{brief-early, brief-part, brief-whole, told-brief}
use Rattle.replay_run.proofs.brief.brief.Goals as goal

pub returns-in_err-world-clause-output : goal.returns-in_err-world-clause-output
returns-in_err-world-clause-output g c =
    by-error _ _ _ _ _ _ _ _ c.from_residual.ensures.0
    (λ refusal. brief-early _ _ _ (g.H.Hash32.digest_of c.args.h) _ refusal c.in_err-world.ensures.stopped)

pub returns-in_err-push_last-clause-output : goal.returns-in_err-push_last-clause-output
returns-in_err-push_last-clause-output g c =
    let Faults = ReadsToFault (g.S.Source.faults c.args.source.now) (g.S.Source.faults c.answer_schedule.new.source)
    (g.S.Source.failed_last c.answer_schedule.new.source) in
    by-error _ _ _ _ _ _ (Faults true) _ c.from_residual-in_err-push_last.ensures.0
    (λ refusal. brief-part _ _ g.H.Hash32.digest_of _ _ _ _ Faults c.in_ok-world.ensures.answered
    c.in_ok-world.ensures.reads _ _ refusal (front-none _ _))

pub returns-in_err-put_text-clause-output : goal.returns-in_err-put_text-clause-output
returns-in_err-put_text-clause-output g c =
    let Faults = ReadsToFault (g.S.Source.faults c.args.source.now) (g.S.Source.faults c.answer_schedule.new.source)
    (g.S.Source.failed_last c.answer_schedule.new.source) in
    let told = told-brief _ _ g.H.Hash32.digest_of _ _ _ _ Faults c.in_ok-world.ensures.answered
    c.in_ok-world.ensures.reads c.new-text.result.items c.push_last.new.text.items c.new-text.ensures.items
    c.in_ok-push_last.ensures in
    by-error _ _ _ _ _ _ (Faults true) _ c.from_residual-in_err-put_text.ensures.0
    (λ refusal. brief-part _ _ g.H.Hash32.digest_of _ _ _ _ Faults c.in_ok-world.ensures.answered
    c.in_ok-world.ensures.reads _ _ refusal
    (subst (WroteFront (g.K.Sink.taken c.args.sink.now) (g.K.Sink.taken c.put_text.new.sink)) told
    c.in_err-put_text.ensures.err))

pub returns-clause-output : goal.returns-clause-output
returns-clause-output g c =
    let Faults = ReadsToFault (g.S.Source.faults c.args.source.now) (g.S.Source.faults c.answer_schedule.new.source)
    (g.S.Source.failed_last c.answer_schedule.new.source) in
    let told = told-brief _ _ g.H.Hash32.digest_of _ _ _ _ Faults c.in_ok-world.ensures.answered
    c.in_ok-world.ensures.reads c.new-text.result.items c.push_last.new.text.items c.new-text.ensures.items
    c.in_ok-push_last.ensures in
    brief-whole _ _ g.H.Hash32.digest_of _ _ _ _ Faults c.in_ok-world.ensures.answered c.in_ok-world.ensures.reads
    _ _
    (subst (Wrote (g.K.Sink.taken c.args.sink.now) (g.K.Sink.taken c.put_text.new.sink)) told
    c.in_ok-put_text.ensures.ok)

pub returns-in_err-put_text-clause-reads : goal.returns-in_err-put_text-clause-reads
returns-in_err-put_text-clause-reads g c =
    read-before _ _ c.from_residual-in_err-put_text.ensures.0 _ c.in_ok-world.ensures.reads

pub returns-clause-reads : goal.returns-clause-reads
returns-clause-reads g c =
    let Faults = ReadsToFault (g.S.Source.faults c.args.source.now) (g.S.Source.faults c.answer_schedule.new.source)
    (g.S.Source.failed_last c.answer_schedule.new.source) in
    read-by Faults _ c.in_ok-world.ensures.reads

-- ---- nothing is put on the way, and nothing is read behind a put that failed

pub returns-in_err-world-clause-prompt : goal.returns-in_err-world-clause-prompt
returns-in_err-world-clause-prompt g c = brief-unwritten _ _ _ _ _ _ c.in_err-world.ensures.prompt _

pub returns-in_err-push_last-clause-prompt : goal.returns-in_err-push_last-clause-prompt
returns-in_err-push_last-clause-prompt g c = brief-unwritten _ _ _ _ _ _ c.in_ok-world.ensures.prompt _

pub returns-in_err-put_text-clause-prompt : goal.returns-in_err-put_text-clause-prompt
returns-in_err-put_text-clause-prompt g c =
    let Faults = ReadsToFault (g.S.Source.faults c.args.source.now) (g.S.Source.faults c.answer_schedule.new.source)
    (g.S.Source.failed_last c.answer_schedule.new.source) in
    let told = told-brief _ _ g.H.Hash32.digest_of _ _ _ _ Faults c.in_ok-world.ensures.answered
    c.in_ok-world.ensures.reads c.new-text.result.items c.push_last.new.text.items c.new-text.ensures.items
    c.in_ok-push_last.ensures in
    brief-last _ _ _ _ _ _ c.in_ok-world.ensures.prompt _ _ _ _ c.in_ok-world.ensures.last
    (subst (WroteFront (g.K.Sink.taken c.args.sink.now) (g.K.Sink.taken c.put_text.new.sink)) told
    c.in_err-put_text.ensures.err)

pub returns-clause-prompt : goal.returns-clause-prompt
returns-clause-prompt g c =
    let Faults = ReadsToFault (g.S.Source.faults c.args.source.now) (g.S.Source.faults c.answer_schedule.new.source)
    (g.S.Source.failed_last c.answer_schedule.new.source) in
    let told = told-brief _ _ g.H.Hash32.digest_of _ _ _ _ Faults c.in_ok-world.ensures.answered
    c.in_ok-world.ensures.reads c.new-text.result.items c.push_last.new.text.items c.new-text.ensures.items
    c.in_ok-push_last.ensures in
    brief-last _ _ _ _ _ _ c.in_ok-world.ensures.prompt _ _ _ _ c.in_ok-world.ensures.last
    (front-whole _ _ _
    (subst (Wrote (g.K.Sink.taken c.args.sink.now) (g.K.Sink.taken c.put_text.new.sink)) told
    c.in_ok-put_text.ensures.ok))
