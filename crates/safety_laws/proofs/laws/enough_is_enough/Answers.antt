use Rattle.safety_laws.proofs.Enough.{enough_is_enough, run_enough_is_enough}
use Rattle.safety_laws.proofs.laws.enough_is_enough.Goals as goal

pub returns-clause-legal : goal.returns-clause-legal
returns-clause-legal c = enough_is_enough

pub returns-clause-run : goal.returns-clause-run
returns-clause-run c = run_enough_is_enough
