use Rattle.streamed_lines.proofs.OutsideLaws.{front-put, part-err}
use Rattle.streamed_lines.proofs.stream.put_text.Goals as goal

pub returns-in_err-put_all-clause-err : goal.returns-in_err-put_all-clause-err
returns-in_err-put_all-clause-err g c =
    part-err _ _ (rw c.deref.ensures.value at (front-put _ _ _ _ _ _ c.in_err-put_all.ensures.bytes))
