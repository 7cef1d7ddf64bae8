use Rattle.run_endings.proofs.PutLaws.{behind-whole, behind-part, front-longer}
use Rattle.run_endings.proofs.ending.put_behind.Goals as goal

pub returns-in-Ok-clause-ok : goal.returns-in-Ok-clause-ok
returns-in-Ok-clause-ok g c =
    behind-whole _ _ _ _ _ c.in-Ok.ensures.ok c.put_all.result c.put_all.ensures.bytes

pub returns-in-Ok-clause-err : goal.returns-in-Ok-clause-err
returns-in-Ok-clause-err g c = behind-part _ _ _ _ _ c.in-Ok.ensures.ok c.put_all.result c.put_all.ensures.bytes

pub returns-in-Err-clause-err : goal.returns-in-Err-clause-err
returns-in-Err-clause-err g c = front-longer _ _ _ _ c.in-Err.ensures.err
