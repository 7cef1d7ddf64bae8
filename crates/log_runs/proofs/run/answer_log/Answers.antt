use contract.BorrowLft.{⊑_meet, ⊑_static}
use Rattle.std.proofs.Common.{◌≡◌, Err, inl, inr, sym, ap, ◌∙◌}
use Rattle.std.proofs.lemmas.Bool.{false≢true}
use Rattle.std.proofs.lemmas.Result.{err_from_is_err_and}
use Rattle.streamed_lines.specs.Outside.{ReadsToFault}
use Rattle.streamed_lines.proofs.OutsideLaws.{front-whole}
use Rattle.run_endings.proofs.PromptLaws.{prompt-last, composed-reads}
use Rattle.plasma_outside.specs.declared.sink.SinkRefusal.TheVariants.{Failed, NoMemory}
use Rattle.log_runs.proofs.RunLaws.{by-error, ran-early, ran-part, ran-whole}
use Rattle.log_runs.proofs.LackLaws.{lacks-broken, lacks-composed}
use Rattle.log_runs.proofs.run.answer_log.Goals as goal

pub answer_lines-requires : goal.answer_lines-requires
answer_lines-requires g c κs within =
    let follower = within.0 in
    let kept = within.1.0 in (
      search (⊑_meet, ⊑_static, follower, kept) depth 120 fits 200000,
      (
        within.1.1.0,
        (
          within.1.1.1,
          (⊑_static _, (c.new-text.ensures.items, (c.new-session.ensures.ready, c.new-session.ensures.ran))),
        ),
      ),
    )

pub returns-in-Ok-clause-runs : goal.returns-in-Ok-clause-runs
returns-in-Ok-clause-runs g c =
    rw (← c.new-session.ensures.follower)
    (ran-whole (g.F.Follower.following c.new-session.result.follower) _ _ _ _ _ _ _ _ c.in-Ok.ending
    (ReadsToFault (g.S.Source.faults c.args.source.now) (g.S.Source.faults c.answer_lines.new.source)
    (g.S.Source.failed_last c.answer_lines.new.source))
    c.in-Ok.ensures.answered c.in-Ok.ensures.reads _ c.in_ok-put_last-in-Ok.ensures.ok)

pub returns-in_err-put_last-in-Ok-clause-runs : goal.returns-in_err-put_last-in-Ok-clause-runs
returns-in_err-put_last-in-Ok-clause-runs g c =
    rw (← c.new-session.ensures.follower)
    (by-error (g.F.Follower.following c.new-session.result.follower) _ _ _ _ _ _ c.from_residual.ensures.0
    (λ refusal. ran-part (g.F.Follower.following c.new-session.result.follower) _ _ _ _ _ _ _ _ c.in-Ok.ending
    (ReadsToFault (g.S.Source.faults c.args.source.now) (g.S.Source.faults c.answer_lines.new.source)
    (g.S.Source.failed_last c.answer_lines.new.source))
    c.in-Ok.ensures.answered c.in-Ok.ensures.reads _ refusal c.in_err-put_last-in-Ok.ensures.err))

pub returns-in-Err-WriteFault-clause-runs : goal.returns-in-Err-WriteFault-clause-runs
returns-in-Err-WriteFault-clause-runs g c =
    rw (← c.new-session.ensures.follower)
    (ran-early (g.F.Follower.following c.new-session.result.follower) _ _ _ _ _ _ _ _ c.in-Err-WriteFault.field-0 _
    Failed c.in-Err-WriteFault.ensures.broken)

pub returns-in-Err-NoMemory-clause-runs : goal.returns-in-Err-NoMemory-clause-runs
returns-in-Err-NoMemory-clause-runs g c =
    rw (← c.new-session.ensures.follower)
    (ran-early (g.F.Follower.following c.new-session.result.follower) _ _ _ _ _ _ _ _ c.in-Err-NoMemory.field-0 _
    NoMemory c.in-Err-NoMemory.ensures.broken)

-- ---- the answers are written before more is read

pub returns-in-Ok-clause-prompt : goal.returns-in-Ok-clause-prompt
returns-in-Ok-clause-prompt g c =
    rw (← c.new-session.ensures.follower)
    (prompt-last _ _ _ _ _ _ _ _ _ _ _ c.in-Ok.ending _ c.in-Ok.ensures.last c.in-Ok.ensures.put
    c.in-Ok.ensures.answered c.in-Ok.ensures.prompt (front-whole _ _ _ c.in_ok-put_last-in-Ok.ensures.ok))

pub returns-in_err-put_last-in-Ok-clause-prompt : goal.returns-in_err-put_last-in-Ok-clause-prompt
returns-in_err-put_last-in-Ok-clause-prompt g c =
    rw (← c.new-session.ensures.follower)
    (prompt-last _ _ _ _ _ _ _ _ _ _ _ c.in-Ok.ending _ c.in-Ok.ensures.last c.in-Ok.ensures.put
    c.in-Ok.ensures.answered c.in-Ok.ensures.prompt c.in_err-put_last-in-Ok.ensures.err)

-- ---- a run that ends for want of memory over a sink that takes none met no fault of the source

pub returns-in_err-put_last-in-Ok-clause-source_memory : goal.returns-in_err-put_last-in-Ok-clause-source_memory
returns-in_err-put_last-in-Ok-clause-source_memory g c = λ none is.
    let p = err_from_is_err_and c.from_residual.result c.from_residual.ensures.1 in
    let wants : c.in_err-put_last-in-Ok.field-0.0 ≡ NoMemory = cc (p.1, p.2, is) in
    elim (c.in_err-put_last-in-Ok.ensures.memory (ap Err wants)) [
      | inl takes ↦ absurd (false≢true (sym none ∙ takes))
      | inr composed ↦
          composed-reads
          (ReadsToFault (g.S.Source.faults c.args.source.now) (g.S.Source.faults c.answer_lines.new.source)
          (g.S.Source.failed_last c.answer_lines.new.source))
          c.in-Ok.ending composed c.in-Ok.ensures.reads
    ]

-- ---- where it lacks memory

pub returns-in-Err-NoMemory-clause-memory : goal.returns-in-Err-NoMemory-clause-memory
returns-in-Err-NoMemory-clause-memory g c = λ none is.
    rw (← c.new-session.ensures.follower)
    (lacks-broken (g.F.Follower.following c.new-session.result.follower) _ _ _ _ _ _ _ _ _ none
    (λ run line halted. halted) c.in-Err-NoMemory.field-0 c.in-Err-NoMemory.field-0-is
    c.in-Err-NoMemory.ensures.broken)

pub returns-in_err-put_last-in-Ok-clause-memory : goal.returns-in_err-put_last-in-Ok-clause-memory
returns-in_err-put_last-in-Ok-clause-memory g c = λ none is.
    let p = err_from_is_err_and c.from_residual.result c.from_residual.ensures.1 in
    let wants : c.in_err-put_last-in-Ok.field-0.0 ≡ NoMemory = cc (p.1, p.2, is) in
    elim (c.in_err-put_last-in-Ok.ensures.memory (ap Err wants)) [
      | inl takes ↦ absurd (false≢true (sym none ∙ takes))
      | inr composed ↦
          rw (← c.new-session.ensures.follower)
          (lacks-composed (g.F.Follower.following c.new-session.result.follower) _ _ _ _ _ _ _ _ _ c.in-Ok.ending
          c.in-Ok.ensures.answered composed)
    ]
