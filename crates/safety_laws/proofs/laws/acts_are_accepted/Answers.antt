use Rattle.safety_laws.proofs.Acts.{acts_are_accepted, starts_are_leaves}
use Rattle.safety_laws.proofs.Runs.{run_acts_are_accepted}
use Rattle.safety_laws.proofs.laws.acts_are_accepted.Goals as goal

pub returns-clause-legal : goal.returns-clause-legal
returns-clause-legal c = acts_are_accepted

pub returns-clause-run : goal.returns-clause-run
returns-clause-run c = run_acts_are_accepted

pub returns-clause-leave : goal.returns-clause-leave
returns-clause-leave c = starts_are_leaves
