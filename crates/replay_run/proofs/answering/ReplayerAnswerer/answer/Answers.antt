use Rattle.std.proofs.Common.{rules}
use Rattle.replay_run.proofs.ReplayLaws.{step-bad, step-full, step-answered}
use Rattle.replay_run.proofs.answering.ReplayerAnswerer.answer.Goals as goal

pub returns-in-Ok-clause-answered : goal.returns-in-Ok-clause-answered
returns-in-Ok-clause-answered g c =
    λ run ran.
    step-answered g.H.Hash32.digest_of _ run ran _ _ c.in_ok-read_line.ensures.found _ _ _ c.in-Ok.told _ _
    (λ next is. is) (rw c.in-Ok.is at c.step-stepped.ensures.hash)
    (rw c.in-Ok.is at (c.step-stepped.ensures.ok ran.lines ran.after)) c.in_ok-print_line-in-Ok.ensures.ok

pub returns-in-Err-BadLine-clause-halts : goal.returns-in-Err-BadLine-clause-halts
returns-in-Err-BadLine-clause-halts g c =
    λ run ran.
    step-bad g.H.Hash32.digest_of _ run ran _ _ c.in_ok-read_line.ensures.found
    (c.step-stepped.ensures.bad ran.lines ran.after (search rules))

pub returns-in-Err-MailFull-clause-halts : goal.returns-in-Err-MailFull-clause-halts
returns-in-Err-MailFull-clause-halts g c =
    λ run ran.
    step-full g.H.Hash32.digest_of _ run ran _ _ c.in_ok-read_line.ensures.found
    (c.step-stepped.ensures.full ran.lines ran.after (search rules))
