use Rattle.safety_laws.proofs.GoneWords.{gone_means_gone, paid_means_paid}
use Rattle.safety_laws.proofs.Runs.{run_gone_means_gone, run_paid_means_paid}
use Rattle.safety_laws.proofs.laws.gone_means_gone.Goals as goal

pub returns-clause-legal : goal.returns-clause-legal
returns-clause-legal c = gone_means_gone

pub returns-clause-legal_paid : goal.returns-clause-legal_paid
returns-clause-legal_paid c = paid_means_paid

pub returns-clause-run : goal.returns-clause-run
returns-clause-run c = run_gone_means_gone

pub returns-clause-run_paid : goal.returns-clause-run_paid
returns-clause-run_paid c = run_paid_means_paid
