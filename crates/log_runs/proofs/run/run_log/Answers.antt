use Rattle.log_runs.proofs.CompleteLaws.{log-complete}
use Rattle.log_runs.proofs.run.run_log.Goals as goal

pub returns-in-Ok-clause-complete : goal.returns-in-Ok-clause-complete
returns-in-Ok-clause-complete g c =
    rw c.status_of.ensures.status (log-complete _ _ _ _ _ _ _ c.in-Ok.ensures.runs)

pub returns-in-Err-clause-complete : goal.returns-in-Err-clause-complete
returns-in-Err-clause-complete g c =
    rw c.of_refusal.ensures.status (log-complete _ _ _ _ _ _ _ c.in-Err.ensures.runs)
