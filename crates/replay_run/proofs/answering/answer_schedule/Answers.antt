use contract.BorrowLft.{⊑_meet, ⊑_static}
use Rattle.streamed_lines.proofs.PromptLaws.{prompt-same}
use Rattle.replay_run.proofs.AnswerLaws.{answers-so, stops-so, answers-are}
use Rattle.replay_run.proofs.answering.answer_schedule.Goals as goal

pub returns-in-Ok-clause-answered : goal.returns-in-Ok-clause-answered
returns-in-Ok-clause-answered g c =
    rw (← c.new-replayer.ensures.hash)
    (answers-so _ _ _ _ _ _ _ _ _ g.H.Hash32.digest_of _ c.in-Ok.ending (λ run is. is) c.in-Ok.ensures.answered)

pub returns-in-Err-WriteFault-clause-stopped : goal.returns-in-Err-WriteFault-clause-stopped
returns-in-Err-WriteFault-clause-stopped g c =
    rw (← c.new-replayer.ensures.hash)
    (stops-so _ _ _ _ _ _ _ _ _ c.in-Err-WriteFault.field-0 c.in-Err-WriteFault.ensures.broken)

pub returns-in-Err-NoMemory-clause-stopped : goal.returns-in-Err-NoMemory-clause-stopped
returns-in-Err-NoMemory-clause-stopped g c =
    rw (← c.new-replayer.ensures.hash)
    (stops-so _ _ _ _ _ _ _ _ _ c.in-Err-NoMemory.field-0 c.in-Err-NoMemory.ensures.broken)

pub answer_lines-requires : goal.answer_lines-requires
answer_lines-requires g c κs within =
    let h = within.0 in (
      search (⊑_meet, ⊑_static, h) depth 120 fits 200000,
      (
        within.1.0,
        (
          within.1.1,
          (⊑_static _, (c.requires.none, (tt, c.new-replayer.ensures.ran))),
        ),
      ),
    )

pub returns-in-Ok-clause-prompt : goal.returns-in-Ok-clause-prompt
returns-in-Ok-clause-prompt g c =
    rw (← c.new-replayer.ensures.hash) (prompt-same _ _ _ _ _ _ _ (answers-are _) c.in-Ok.ensures.prompt)

pub returns-in-Err-WriteFault-clause-prompt : goal.returns-in-Err-WriteFault-clause-prompt
returns-in-Err-WriteFault-clause-prompt g c =
    rw (← c.new-replayer.ensures.hash) (prompt-same _ _ _ _ _ _ _ (answers-are _) c.in-Err-WriteFault.ensures.prompt)

pub returns-in-Err-NoMemory-clause-prompt : goal.returns-in-Err-NoMemory-clause-prompt
returns-in-Err-NoMemory-clause-prompt g c =
    rw (← c.new-replayer.ensures.hash) (prompt-same _ _ _ _ _ _ _ (answers-are _) c.in-Err-NoMemory.ensures.prompt)
