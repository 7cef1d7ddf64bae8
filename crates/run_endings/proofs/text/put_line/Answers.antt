use Rattle.std.proofs.Common.{[]}
use Rattle.streamed_lines.proofs.OutsideLaws.{wrote-put, front-put}
use Rattle.run_endings.proofs.EndingLaws.{ends-whole, ends-stopped, stops-line}
use Rattle.run_endings.proofs.text.put_line.Goals as goal

pub returns-in-Ok-clause-output : goal.returns-in-Ok-clause-output
returns-in-Ok-clause-output g c =
    ends-whole (record { status = c.args.status; answers = []; last = c.args.line.now }) _ _ _
    (λ is. absurd (c.requires.no_read_fault is))
    (wrote-put _ _ _ _ _ _ c.in-Ok.ensures.bytes)

pub returns-in-Err-clause-output : goal.returns-in-Err-clause-output
returns-in-Err-clause-output g c =
    rw c.of_refusal.ensures.status
    (ends-stopped c.in-Err.refusal _ _ _ _
    (stops-line _ _ _ _ c.requires.no_read_fault (front-put _ _ _ _ _ _ c.in-Err.ensures.bytes)))
