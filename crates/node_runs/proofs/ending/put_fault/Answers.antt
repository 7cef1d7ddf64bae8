use Rattle.node_runs.proofs.EndLaws.{fault-behind, fault-stopped}
use Rattle.node_runs.proofs.ending.put_fault.Goals as goal

pub returns-in-Ok-clause-ends : goal.returns-in-Ok-clause-ends
returns-in-Ok-clause-ends g c =
    fault-behind _ _ _ _ _ c.put_line.result c.in-Ok.ensures.ok c.put_line.ensures.output

pub returns-in-Err-clause-ends : goal.returns-in-Err-clause-ends
returns-in-Err-clause-ends g c =
    rw c.of_refusal.ensures.status (fault-stopped c.in-Err.refusal _ _ _ _ c.in-Err.ensures.err)
